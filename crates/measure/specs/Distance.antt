-- The distance measure: the square of a point's distance to the segment that the chord draws.
--   off p q k        that square for the point k and the segment from p to q, rounded up: to its start, to its end, or to its side
--   off_at           the same by numbers: for the point k and the chord from i to j
--   distance_error   the greatest over the points strictly between i and j
--   distance         the bare measure with that error
--   Reaches p q k e  e is not below the square of the distance from k to the segment, with nothing rounded
--   ReachesAll       so for each point strictly between i and j
--   LeastDistance    an answered error is the least whole number that reaches all
use Rattle.std.specs.Prelude.{ℕ, ◌<◌, cond, List, pos, ◌*ℤ◌, ◌≤ℤ◌, ◌<ℤ◌, Option, int_le, unsigned_abs}
use Rattle.tray.specs.declared.point.Point.{Point}
use Rattle.tray.specs.Stroke.{numbered}
use Rattle.tray.specs.Reductions.{Meaning}
use Rattle.measure.specs.Chords.{bare}
use Rattle.measure.specs.Between.{greatest_between}
use Rattle.measure.specs.Steps.{square, rounded_up, cross, dot}
use Rattle.measure.specs.Least.{AnswersLeast}

abbrev pub off : Point → Point → Point → ℕ
off p q k =
    cond (int_le (dot p k q) (pos 0)) (unsigned_abs (dot p k k))
    (cond (int_le (dot p q q) (dot p k q)) (unsigned_abs (dot q k k)) (rounded_up (square (cross p q k)) (unsigned_abs (dot p q q))))

abbrev pub off_at : List Point → ℕ → ℕ → ℕ → ℕ
off_at ps i j k = off (numbered ps i) (numbered ps j) (numbered ps k)

abbrev pub distance_error : List Point → ℕ → ℕ → ℕ
distance_error ps i j = greatest_between i j (off_at ps i j)

abbrev pub distance : Meaning
distance = bare distance_error

abbrev pub Reaches : Point → Point → Point → ℕ → Type 0
Reaches p q k e =
    (dot p k q ≤ℤ pos 0 → dot p k k ≤ℤ pos e)
    × (pos 0 <ℤ dot p k q → dot p q q ≤ℤ dot p k q → dot q k k ≤ℤ pos e)
    × (pos 0 <ℤ dot p k q → dot p k q <ℤ dot p q q → (cross p q k *ℤ cross p q k) ≤ℤ (pos e *ℤ dot p q q))

abbrev pub ReachesAll : List Point → ℕ → ℕ → ℕ → Type 0
ReachesAll ps i j e = (k : ℕ) → i < k → k < j → Reaches (numbered ps i) (numbered ps j) (numbered ps k) e

abbrev pub LeastDistance : List Point → ℕ → ℕ → Option ℕ → Type 0
LeastDistance ps i j o = AnswersLeast (ReachesAll ps i j) o
