-- What is read of one stroke.
--   RestRead         the points up to the order were read, and the open stroke holds them
--   HoldsStroke w s  a stroke of the code holds the stroke s of the page
--   StrokeRead R R'  of the reading R the first stroke was read and R' is left; or it has none
use Rattle.std.specs.Prelude.{◌≡◌, ℕ, ◌<◌, List, [], ◌∷◌, Some, None, Ok, Err, Option, Result}
use Rattle.page.specs.declared.fault.PageFault.{PageFault}
use Rattle.page.specs.declared.walk.Walk.{Walk}
use Rattle.page.specs.declared.kinds.Part.{Part}
use Rattle.page.specs.declared.kinds.Part.TheVariants.{Outside}
use Rattle.page.specs.declared.kinds.Point.{Point as Dot}
use Rattle.page.specs.declared.order.KnownOrder.{KnownOrder}
use Rattle.page.specs.Faults.{told}
use Rattle.page.specs.Codes.{coded}
use Rattle.page.specs.Strokes.{Stroke}
use Rattle.page.specs.Steps.{Reading, accepted, outside, inside, closed, read_from}
use Rattle.job.specs.declared.open.OpenStroke.{OpenStroke}
use Rattle.job.specs.declared.whole.WholeStroke.{WholeStroke}
use Rattle.job.specs.Open.{Holds}
use Rattle.job.specs.Reads.{stopped}

abbrev pub left : Walk → Reading
left w = read_from w.place outside w.rest.now

abbrev pub from_within : Walk → ℕ → List Dot → Reading
from_within w n ps = read_from w.place (inside n ps) w.rest.now

abbrev pub RestRead : Walk → List Dot → Walk → OpenStroke → Result KnownOrder PageFault → Type 0
RestRead w ps w' o' (Ok order) = (qs : List Dot) × (Holds o' qs × ((n : ℕ) → from_within w n ps ≡ closed (inside n qs) order (left w')))
RestRead w ps w' o' (Err f) = (n : ℕ) → from_within w n ps ≡ stopped (told f)

pub record HoldsStroke (w : WholeStroke) (s : Stroke) : Type 0 where
  pub number : w.number ≡ s.number
  pub points : Holds w.open s.points
  pub order : coded w.order ≡ s.order

pub record FirstRead (R R' : Reading) (w : WholeStroke) : Type 0 where
  pub stroke : Stroke
  pub held : HoldsStroke w stroke
  pub is : R ≡ record { strokes = stroke ∷ R'.strokes; ending = R'.ending }

abbrev pub StrokeRead : Reading → Reading → Result (Option WholeStroke) PageFault → Type 0
StrokeRead R R' (Ok (Some w)) = FirstRead R R' w
StrokeRead R R' (Ok None) = R ≡ record { strokes = []; ending = accepted }
StrokeRead R R' (Err f) = R ≡ stopped (told f)

abbrev pub BetweenStrokes : Part → Result (Option WholeStroke) PageFault → Type 0
BetweenStrokes part (Ok (Some w)) = part ≡ Outside
BetweenStrokes part (Ok None) = Unit {0}
BetweenStrokes part (Err f) = Unit {0}

-- a stroke that was read leaves fewer bytes
abbrev pub Shorter : ℕ → ℕ → Result (Option WholeStroke) PageFault → Type 0
Shorter new old (Ok (Some w)) = new < old
Shorter new old (Ok None) = Unit {0}
Shorter new old (Err f) = Unit {0}
