-- The measure of an order answers chords of the stroke alone.
use Rattle.std.proofs.Common.{◌≡◌, ℕ, ◌<◌, ◌≤◌, Bool, true, false, cond, eqb, List, length, Some}
use Rattle.tray.specs.declared.point.Point.{Point}
use Rattle.tray.specs.Reductions.{Meaning}
use Rattle.page.specs.declared.kinds.Order.{Order}
use Rattle.measure.specs.Layers.{cornered, overlong}
use Rattle.measure.specs.Synchronous.{synchronous, synchronous_error}
use Rattle.measure.specs.Distance.{distance, distance_error}
use Rattle.measure.specs.Area.{area, area_error}
use Rattle.measure.specs.Answered.{bare_within, passed_on}
use Rattle.job.specs.Answer.{measure_of, layered}

abbrev pub Within : Meaning → Type 0
Within m = (ps : List Point) (i j e : ℕ) → m ps i j ≡ Some e → (1 ≤ i) × (i < j) × (j ≤ length ps)

either : (b : Bool) (m n : Meaning) → Within m → Within n → Within (cond b m n)
either true m n v w = v
either false m n v w = w

measure_within : (c : ℕ) → Within (measure_of c)
measure_within c =
    either (eqb c 1) synchronous (cond (eqb c 2) distance area) (bare_within synchronous_error)
    (either (eqb c 2) distance area (bare_within distance_error) (bare_within area_error))

pub layered_within : (o : Order) → Within (layered o)
layered_within o ps i j e q =
    measure_within o.measure ps i j e (passed_on (overlong o.span ps i j) _ e (passed_on (cornered ps i j) _ e q))
