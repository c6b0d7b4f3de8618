-- What the code's answers stand for, in the words of a reading.
--   rec_of      a record of the code, with its payload as a list
--   alone_of    the answer for a payload of a kind: its record, with nothing behind it
--   front_of    the answer for the record at the front
--   looked_of   a look's answer
--   InPlace     a record that is looked at tells its place, and its payload is the part of the page behind its length and its kind
--   seen        a step's answer, with where it leaves the walk
--   Falls       a step that says something of a stroke leaves fewer bytes
--   Parts       a step is made where it belongs, and leads where it should; a refused one moves nothing
use Rattle.std.specs.Prelude.{◌≡◌, ℕ, ◌<◌, List, [], take, drop, Some, None, Ok, Err, Option, Result}
use Rattle.std.specs.Borrow.{Bor}
use Rattle.refusal.specs.declared.Told.{Told}
use Rattle.refusal.specs.Said.{said}
use Rattle.page.specs.declared.fault.PageCause.{PageCause}
use Rattle.page.specs.declared.fault.PageFault.{PageFault}
use Rattle.page.specs.declared.kinds.Record.{Record}
use Rattle.page.specs.declared.kinds.Record.TheVariants.{Start, Plain, Corner, Order}
use Rattle.page.specs.declared.kinds.Placed.{Placed}
use Rattle.page.specs.declared.kinds.Part.{Part}
use Rattle.page.specs.declared.kinds.Step.{Step}
use Rattle.page.specs.declared.kinds.Step.TheVariants.{Begin, Point as Next, Finish, End}
use Rattle.page.specs.declared.walk.Walk.{Walk}
use Rattle.page.specs.Faults.{told}
use Rattle.page.specs.Records.{Rec, payload, size_of, start_rec, plain_rec, corner_rec, order_rec, Front, bad, one}
use Rattle.page.specs.Steps.{part_before, part_after, Stepped}

abbrev pub rec_of : Record → Rec
rec_of (Start p) = start_rec p.now
rec_of (Plain p) = plain_rec p.now
rec_of (Corner p) = corner_rec p.now
rec_of (Order p) = order_rec p.now

-- a record with nothing behind it
abbrev pub alone_of : Result Record PageCause → Front
alone_of (Ok r) = one (rec_of r) []
alone_of (Err c) = bad c

abbrev pub front_of : Result (Placed × Bor (List ℕ)) PageFault → Front
front_of (Ok x) = one (rec_of x.0.record) x.1.now
front_of (Err f) = bad f.cause

abbrev pub looked_of : Result (Option Placed) PageFault → Result (Option Rec) Told
looked_of (Ok (Some p)) = Ok (Some (rec_of p.record))
looked_of (Ok None) = Ok None
looked_of (Err f) = Err (told f)

abbrev pub InPlace : ℕ → List ℕ → Result (Option Placed) PageFault → Type 0
InPlace place bs (Ok (Some p)) = (p.place ≡ place) × (payload (rec_of p.record) ≡ take (size_of (rec_of p.record)) (drop 4 bs))
InPlace place bs (Ok None) = Unit {0}
InPlace place bs (Err f) = Unit {0}

abbrev pub seen : Result Step PageFault → Walk → Stepped
seen r w = record { answer = said told r; place = w.place; part = w.part; rest = w.rest.now }

abbrev pub Falls : ℕ → ℕ → Result Step Told → Type 0
Falls new old (Ok (Begin n)) = new < old
Falls new old (Ok (Next p)) = new < old
Falls new old (Ok (Finish o)) = new < old
Falls new old (Ok End) = Unit {0}
Falls new old (Err t) = Unit {0}

abbrev pub Parts : Part → Part → Result Step Told → Type 0
Parts before after (Ok s) = (before ≡ part_before s) × (after ≡ part_after s)
Parts before after (Err t) = after ≡ before
