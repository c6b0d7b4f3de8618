-- The synchronous measure: how far points are from where the chord has come at their times, if it is run through evenly.
--   lag                 (at − from)·whole − part·(to − from): from the chord's place at the time part to the point, times whole
--   lags p q k          the squares of the lags of k in both coordinates, on the chord from p to q
--   lags_at             the same by numbers: of the point k on the chord from i to j
--   all_lags            their sum over the points strictly between i and j
--   synchronous_error   that sum over the square of the time from i to j, rounded up
--   synchronous         the bare measure with that error
--   Enough ps i j e     the sum is at most e times that square
--   LeastSynchronous    an answered error is the least whole number that is enough
use Rattle.std.specs.Prelude.{ℕ, ◌+◌, ◌-◌, ◌*◌, ◌≤◌, List, ℤ, pos, ◌-ℤ◌, ◌*ℤ◌, Option}
use Rattle.tray.specs.declared.point.Point.{Point}
use Rattle.tray.specs.Stroke.{numbered}
use Rattle.tray.specs.Reductions.{Meaning}
use Rattle.measure.specs.Chords.{lasting, bare}
use Rattle.measure.specs.Between.{sum_between}
use Rattle.measure.specs.Steps.{square, rounded_up}
use Rattle.measure.specs.Least.{AnswersLeast}

abbrev pub lag : ℤ → ℤ → ℤ → ℕ → ℕ → ℤ
lag from at to part whole = (at -ℤ from) *ℤ pos whole -ℤ pos part *ℤ (to -ℤ from)

abbrev pub lags : Point → Point → Point → ℕ
lags p q k =
    square (lag p.x k.x q.x (k.t - p.t) (q.t - p.t)) + square (lag p.y k.y q.y (k.t - p.t) (q.t - p.t))

abbrev pub lags_at : List Point → ℕ → ℕ → ℕ → ℕ
lags_at ps i j k = lags (numbered ps i) (numbered ps j) (numbered ps k)

abbrev pub all_lags : List Point → ℕ → ℕ → ℕ
all_lags ps i j = sum_between i j (lags_at ps i j)

abbrev pub synchronous_error : List Point → ℕ → ℕ → ℕ
synchronous_error ps i j = rounded_up (all_lags ps i j) (lasting ps i j * lasting ps i j)

abbrev pub synchronous : Meaning
synchronous = bare synchronous_error

abbrev pub Enough : List Point → ℕ → ℕ → ℕ → Type 0
Enough ps i j e = all_lags ps i j ≤ e * (lasting ps i j * lasting ps i j)

abbrev pub LeastSynchronous : List Point → ℕ → ℕ → Option ℕ → Type 0
LeastSynchronous ps i j o = AnswersLeast (Enough ps i j) o
