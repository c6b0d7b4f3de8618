use Rattle.std.proofs.Common.{◌≡◌, ℕ, ◌≤◌, List, length}
use Rattle.page.specs.declared.kinds.Part.TheVariants.{Inside}
use Rattle.page.specs.declared.kinds.Point.{Point as Dot}
use Rattle.job.specs.Open.{Holds}
use Rattle.job.specs.Whole.{from_within}
use Rattle.job.proofs.stroke.read_points.Given as goal

abbrev pub invariant-loop-p : goal.invariant-loop-p
invariant-loop-p l =
    (l.walk.part ≡ Inside)
    × (length l.walk.rest.now ≤ length l.initial.walk.rest.now)
    × ((ps : List Dot) → Holds l.initial.stroke ps → (qs : List Dot) × (Holds l.stroke qs × ((n : ℕ) → from_within l.initial.walk n ps ≡ from_within l.walk n qs)))

abbrev pub decreases-loop-p : goal.decreases-loop-p
decreases-loop-p l = length l.walk.rest.now
