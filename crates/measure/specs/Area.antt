-- The area measure: twice the area between the stroke and the chord, where what lies on its two sides counts against each other.
--   turn ps i m   the step from the point i to the point m, cross the step from i to the point m + 1
--   swept         the sum of the turns for m from i + 1 to j − 1
--   area_error    that sum without its sign
--   area          the bare measure with that error
use Rattle.std.specs.Prelude.{ℕ, ◌+◌, List, ℤ, unsigned_abs}
use Rattle.tray.specs.declared.point.Point.{Point}
use Rattle.tray.specs.Stroke.{numbered}
use Rattle.tray.specs.Reductions.{Meaning}
use Rattle.measure.specs.Chords.{bare}
use Rattle.measure.specs.Between.{sum_z_between}
use Rattle.measure.specs.Steps.{cross}

abbrev pub turn : List Point → ℕ → ℕ → ℤ
turn ps i m = cross (numbered ps i) (numbered ps m) (numbered ps (m + 1))

abbrev pub swept : List Point → ℕ → ℕ → ℤ
swept ps i j = sum_z_between i j (turn ps i)

abbrev pub area_error : List Point → ℕ → ℕ → ℕ
area_error ps i j = unsigned_abs (swept ps i j)

abbrev pub area : Meaning
area = bare area_error
