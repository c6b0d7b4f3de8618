-- Marks set on the points of a stroke.
--   cornered_by ms qs   the points qs, those made corners that ms says are
--   marked_at m qs k    the same for one of them
use Rattle.std.specs.Prelude.{ℕ, List, [], ◌∷◌, slice_set}
use Rattle.tray.specs.declared.point.Point.{Point}
use Rattle.tray.specs.declared.point.Mark.{Mark}
use Rattle.tray.specs.declared.point.Mark.TheVariants.{Plain, Corner}
use Rattle.tray.specs.Stroke.{at}
use Rattle.tray.specs.Machine.{marked}

abbrev pub corner_if : Mark → Point → Point
corner_if Plain q = q
corner_if Corner q = marked Corner q

abbrev pub cornered_by : List Mark → List Point → List Point
cornered_by [] qs = qs
cornered_by (m ∷ ms) [] = []
cornered_by (m ∷ ms) (q ∷ qs) = corner_if m q ∷ cornered_by ms qs

-- the point at the place k, counted from 0, made a corner if m says so
abbrev pub marked_at : Mark → List Point → ℕ → List Point
marked_at Plain qs k = qs
marked_at Corner qs k = slice_set qs k (marked Corner (at qs k))
