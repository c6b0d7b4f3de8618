-- A page read record by record, from its front.
--   looked p bs       the record at the front of the bytes left, which begin at the place p; none at the end of the page; or why it is refused
--   meant p part r    what the record r at the place p says, between strokes or inside one
--   part_before       where a step is made
--   part_after        where it leaves the walk
--   Stepped           a step's answer, with the place, the part and the bytes left after it
--   stays             nothing moves
--   passes            a record that says something is passed, and a refused one is not
--   at_end            what the end of the page says
--   at_front          the step at what stands at the front
--   stepped           the step from a place, a part and the bytes left
--   State             between strokes, or inside one with its number and the points so far
--   state_of          the state of a part, where the number and the points are told
--   part_of           whether a state is inside a stroke
--   Ending            how a reading ends: at the end of the page, or by a refusal
--   Reading           the strokes that were read whole, and how it ended
--   pointed           the open stroke has one point more
--   closed            the open stroke, closed by its order, stands before what is read then
--   onward            what is read after a step's answer, where `go` reads the rest
--   read_on           the same, from where a step leaves the walk
--   read_by           what is read from a place and a state on, in at most so many steps
--   read_from         what is read from a place and a state on
--   reading           what is read of a page
use Rattle.std.specs.Prelude.{ℕ, zero, suc, ◌+◌, cond, List, [], ◌∷◌, ◌++◌, length, Some, None, Ok, Err, Option, Result}
use Rattle.refusal.specs.declared.Told.{Told}
use Rattle.page.specs.declared.fault.PageCause.TheVariants.{OutOfPlace, WrongCode}
use Rattle.tray.specs.declared.point.Mark.TheVariants.{Plain, Corner}
use Rattle.page.specs.declared.kinds.Point.{Point}
use Rattle.page.specs.declared.order.KnownOrder.{KnownOrder}
use Rattle.page.specs.declared.kinds.Part.{Part}
use Rattle.page.specs.declared.kinds.Part.TheVariants.{Outside, Inside}
use Rattle.page.specs.declared.kinds.Step.{Step}
use Rattle.page.specs.declared.kinds.Step.TheVariants.{Begin, Point as Next, Finish, End}
use Rattle.page.specs.Little.{unle}
use Rattle.page.specs.Faults.{told_at}
use Rattle.page.specs.Records.{Rec, start_rec, plain_rec, corner_rec, order_rec, size_of, Front, bad, one, front}
use Rattle.page.specs.Strokes.{Stroke, stroke_of, point_of, order_of, codes}
use Rattle.page.specs.Codes.{coded, known_order}

abbrev pub looked_at : ℕ → Front → Result (Option Rec) Told
looked_at place (bad c) = Err (told_at c place)
looked_at place (one r left) = Ok (Some r)

abbrev pub looked : ℕ → List ℕ → Result (Option Rec) Told
looked place [] = Ok None
looked place (b ∷ bs) = looked_at place (front (b ∷ bs))

abbrev pub meant : ℕ → Part → Rec → Result Step Told
meant place Outside (start_rec p) = Ok (Begin (unle p))
meant place Outside (plain_rec p) = Err (told_at OutOfPlace place)
meant place Outside (corner_rec p) = Err (told_at OutOfPlace place)
meant place Outside (order_rec p) = Err (told_at OutOfPlace place)
meant place Inside (start_rec p) = Err (told_at OutOfPlace place)
meant place Inside (plain_rec p) = Ok (Next (point_of Plain p))
meant place Inside (corner_rec p) = Ok (Next (point_of Corner p))
meant place Inside (order_rec p) = cond (codes (order_of p)) (Ok (Finish (known_order (order_of p)))) (Err (told_at WrongCode place))

abbrev pub part_before : Step → Part
part_before (Begin n) = Outside
part_before (Next p) = Inside
part_before (Finish o) = Inside
part_before End = Outside

abbrev pub part_after : Step → Part
part_after (Begin n) = Inside
part_after (Next p) = Inside
part_after (Finish o) = Outside
part_after End = Outside

pub record Stepped : Type 0 where
  pub answer : Result Step Told
  pub place : ℕ
  pub part : Part
  pub rest : List ℕ

abbrev pub stays : ℕ → Part → List ℕ → Result Step Told → Stepped
stays place part bs a = record { answer = a; place = place; part = part; rest = bs }

abbrev pub passes : ℕ → Part → List ℕ → Rec → List ℕ → Result Step Told → Stepped
passes place part bs r left (Ok s) = record { answer = Ok s; place = place + (4 + size_of r); part = part_after s; rest = left }
passes place part bs r left (Err t) = stays place part bs (Err t)

abbrev pub at_end : ℕ → Part → Result Step Told
at_end place Outside = Ok End
at_end place Inside = Err (told_at OutOfPlace place)

abbrev pub at_front : ℕ → Part → List ℕ → Front → Stepped
at_front place part bs (bad c) = stays place part bs (Err (told_at c place))
at_front place part bs (one r left) = passes place part bs r left (meant place part r)

abbrev pub stepped : ℕ → Part → List ℕ → Stepped
stepped place part [] = stays place part [] (at_end place part)
stepped place part (b ∷ bs) = at_front place part (b ∷ bs) (front (b ∷ bs))

pub data State : Type 0 where
  outside : State
  inside : ℕ → List Point → State

abbrev pub state_of : Part → ℕ → List Point → State
state_of Outside n ps = outside
state_of Inside n ps = inside n ps

abbrev pub part_of : State → Part
part_of outside = Outside
part_of (inside n ps) = Inside

pub data Ending : Type 0 where
  accepted : Ending
  refused_by : Told → Ending

pub record Reading : Type 0 where
  pub strokes : List Stroke
  pub ending : Ending

abbrev pub pointed : State → Point → State
pointed outside p = outside
pointed (inside n ps) p = inside n (ps ++ p ∷ [])

abbrev pub closed : State → KnownOrder → Reading → Reading
closed outside o r = r
closed (inside n ps) o r = record { strokes = stroke_of n ps (coded o) ∷ r.strokes; ending = r.ending }

abbrev pub onward : State → (State → Reading) → Result Step Told → Reading
onward s go (Ok (Begin n)) = go (inside n [])
onward s go (Ok (Next p)) = go (pointed s p)
onward s go (Ok (Finish o)) = closed s o (go outside)
onward s go (Ok End) = record { strokes = []; ending = accepted }
onward s go (Err t) = record { strokes = []; ending = refused_by t }

abbrev pub read_on : State → (ℕ → State → List ℕ → Reading) → Stepped → Reading
read_on s go x = onward s (λ s'. go x.place s' x.rest) x.answer

unfoldable pub read_by : ℕ → ℕ → State → List ℕ → Reading
read_by zero place s bs = record { strokes = []; ending = accepted }
read_by (suc steps) place s bs = read_on s (read_by steps) (stepped place (part_of s) bs)

-- every record leaves fewer bytes, so that these steps reach the end
unfoldable pub read_from : ℕ → State → List ℕ → Reading
read_from place s bs = read_by (suc (length bs)) place s bs

abbrev pub reading : List ℕ → Reading
reading bs = read_from 0 outside bs
