-- Layers: each bars some chords, and passes on the answer from below for the others.
--   barring b o     no answer where b holds, else the answer o from below
--   is_corner       whether a mark is a corner's
--   corner_at       whether the point k is a corner
--   cornered        whether a corner stands strictly between i and j
--   overlong s      whether the time from i to j is above s
use Rattle.std.specs.Prelude.{ℕ, Bool, true, false, cond, List, None, Option, nat_lt}
use Rattle.tray.specs.declared.point.Point.{Point}
use Rattle.tray.specs.declared.point.Mark.{Mark}
use Rattle.tray.specs.declared.point.Mark.TheVariants.{Plain, Corner}
use Rattle.tray.specs.Stroke.{numbered}
use Rattle.measure.specs.Chords.{lasting}
use Rattle.measure.specs.Between.{some_between}

abbrev pub barring : Bool → Option ℕ → Option ℕ
barring b o = cond b None o

abbrev pub is_corner : Mark → Bool
is_corner Plain = false
is_corner Corner = true

abbrev pub corner_at : List Point → ℕ → Bool
corner_at ps k = is_corner (numbered ps k).mark

abbrev pub cornered : List Point → ℕ → ℕ → Bool
cornered ps i j = some_between i j (corner_at ps)

abbrev pub overlong : ℕ → List Point → ℕ → ℕ → Bool
overlong s ps i j = nat_lt s (lasting ps i j)
