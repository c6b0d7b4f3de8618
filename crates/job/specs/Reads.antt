-- What is read on from a step of a walk, between strokes and inside one.
--   stopped            nothing more is read
--   begun              a stroke begins, or the page ends
--   inner              a point, or the order that closes the stroke
--   Between, Within    where such a step leaves the walk
--   Fewer              how many bytes it leaves
use Rattle.std.specs.Prelude.{◌≡◌, ℕ, ◌<◌, List, [], ◌∷◌, ◌++◌, Some, None, Ok, Err, Option, Result}
use Rattle.std.specs.declared.ops.ControlFlow.{ControlFlow}
use Rattle.std.specs.declared.ops.ControlFlow.TheVariants.{Continue, Break}
use Rattle.refusal.specs.declared.Told.{Told}
use Rattle.page.specs.declared.fault.PageFault.{PageFault}
use Rattle.page.specs.declared.kinds.Part.{Part}
use Rattle.page.specs.declared.kinds.Part.TheVariants.{Outside, Inside}
use Rattle.page.specs.declared.kinds.Point.{Point as Dot}
use Rattle.page.specs.Faults.{told}
use Rattle.page.specs.Steps.{Reading, accepted, refused_by, outside, inside, closed, read_from}
use Rattle.page.specs.declared.order.KnownOrder.{KnownOrder}

abbrev pub stopped : Told → Reading
stopped t = record { strokes = []; ending = refused_by t }

abbrev pub begun : ℕ → List ℕ → Result (Option ℕ) PageFault → Reading
begun place rest (Ok (Some n)) = read_from place (inside n []) rest
begun place rest (Ok None) = record { strokes = []; ending = accepted }
begun place rest (Err f) = stopped (told f)

abbrev pub inner : ℕ → List Dot → ℕ → List ℕ → Result (ControlFlow KnownOrder Dot) PageFault → Reading
inner n ps place rest (Ok (Continue p)) = read_from place (inside n (ps ++ p ∷ [])) rest
inner n ps place rest (Ok (Break o)) = closed (inside n ps) o (read_from place outside rest)
inner n ps place rest (Err f) = stopped (told f)

abbrev pub Between : Part → Result (Option ℕ) PageFault → Type 0
Between part (Ok (Some n)) = part ≡ Inside
Between part (Ok None) = Unit {0}
Between part (Err f) = Unit {0}

-- a stroke that begins leaves fewer bytes
abbrev pub Fewer : ℕ → ℕ → Result (Option ℕ) PageFault → Type 0
Fewer new old (Ok (Some n)) = new < old
Fewer new old (Ok None) = Unit {0}
Fewer new old (Err f) = Unit {0}

abbrev pub Within : Part → Result (ControlFlow KnownOrder Dot) PageFault → Type 0
Within part (Ok (Continue p)) = part ≡ Inside
Within part (Ok (Break o)) = part ≡ Outside
Within part (Err f) = Unit {0}
