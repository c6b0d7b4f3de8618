-- How large lags are, alone and together, and how large the synchronous error is.
use Rattle.std.specs.Prelude.{◌≡◌, ℕ, ◌+◌, ◌-◌, ◌*◌, ◌<◌, ◌≤◌, List, ℤ, pos, ◌-ℤ◌, ◌*ℤ◌, unsigned_abs}
use Rattle.std.proofs.Common.{subst, mul-le-mul_right, mul-pos, arith}
use borrow.Author.Differences.{ints, up, down}
use Rattle.tray.specs.declared.point.Point.{Point}
use Rattle.tray.specs.Stroke.{numbered, Lawful}
use Rattle.total.specs.Laws.{limit}
use Rattle.measure.specs.Chords.{Placed, On, Chord, lasting}
use Rattle.measure.specs.Between.{gathered}
use Rattle.measure.specs.Synchronous.{lag, lags, lags_at, all_lags, synchronous_error}
use Rattle.measure.specs.Ints.{square_small}
use Rattle.measure.specs.Runs.{sum_small}
use Rattle.measure.specs.Rounded.{rounded_least}
use Rattle.measure.specs.Points.{on, step_small, later}

-- ---- one lag

lag_parts : (u w : ℤ) (τ σ : ℕ) → unsigned_abs u ≤ 8191 → unsigned_abs (u -ℤ w) ≤ 8191 → unsigned_abs (u *ℤ pos (τ + σ) -ℤ pos τ *ℤ w) ≤ 8191 * (τ + σ)
lag_parts u w τ σ f g =
    let a : up u ≤ 8191 + down u = omega (arith, ints) in
    let b : down u ≤ 8191 + up u = omega (arith, ints) in
    let c : up u + down w ≤ 8191 + down u + up w = omega (arith, ints) in
    let d : down u + up w ≤ 8191 + up u + down w = omega (arith, ints) in
    omega (arith, ints, mul-le-mul_right σ a, mul-le-mul_right σ b, mul-le-mul_right τ c, mul-le-mul_right τ d)

-- the chord's place is between its ends, so no point on the sheet is further from it than the sheet is wide
pub lag_small : (from here to : ℤ) (part whole : ℕ) → Placed from → Placed here → Placed to → part ≤ whole → unsigned_abs (lag from here to part whole) ≤ 8191 * whole
lag_small from here to part whole f g h l =
    let near : unsigned_abs ((here -ℤ from) -ℤ (to -ℤ from)) ≤ 8191 = omega (arith, ints) in
    let e : part + (whole - part) ≡ whole = omega arith in
    subst (λ (n : ℕ). unsigned_abs ((here -ℤ from) *ℤ pos n -ℤ pos part *ℤ (to -ℤ from)) ≤ 8191 * n) e
    (lag_parts (here -ℤ from) (to -ℤ from) part (whole - part) (step_small from here f g) near)

-- ---- all lags of a chord

pub lags_small : (p q k : Point) → On p → On q → On k → k.t ≤ q.t → lags p q k ≤ 134184962 * ((q.t - p.t) * (q.t - p.t))
lags_small p q k f g h l =
    let w = q.t - p.t in
    let a = square_small (lag p.x k.x q.x (k.t - p.t) w) (8191 * w) (lag_small p.x k.x q.x (k.t - p.t) w f.across h.across g.across (omega arith)) in
    let b = square_small (lag p.y k.y q.y (k.t - p.t) w) (8191 * w) (lag_small p.y k.y q.y (k.t - p.t) w f.upright h.upright g.upright (omega arith)) in
    omega (arith, a, b)

module _ (ps : List Point) (i j : ℕ) (l : Lawful ps) (c : Chord ps i j) where
  -- the first n of them
  pub lags_sum_small : (n : ℕ) → n ≤ j - (i + 1) → gathered ◌+◌ 0 (lags_at ps i j) (i + 1) n ≤ n * (134184962 * (lasting ps i j * lasting ps i j))
  lags_sum_small n h =
      sum_small (lags_at ps i j) (i + 1) n (134184962 * (lasting ps i j * lasting ps i j))
      (λ m p q.
      lags_small (numbered ps i) (numbered ps j) (numbered ps m) (on ps i l (omega arith) (omega arith)) (on ps j l (omega arith) (omega arith)) (on ps m l (omega arith) (omega arith))
      (omega (arith, later ps m j l (omega arith) (omega arith) (omega arith))))

  pub some_time : 0 < lasting ps i j * lasting ps i j
  some_time =
      let some : 0 < lasting ps i j = omega (arith, later ps i j l (omega arith) (omega arith) (omega arith)) in
      mul-pos some some

  pub synchronous_limit : synchronous_error ps i j ≤ limit
  synchronous_limit =
      let w = lasting ps i j in
      let few = l.few in
      let many : (j - (i + 1)) * (134184962 * (w * w)) ≤ 510 * (134184962 * (w * w)) = mul-le-mul_right (134184962 * (w * w)) (omega arith) in
      let b : all_lags ps i j ≤ 68434330620 * (w * w) = omega (arith, many, lags_sum_small (j - (i + 1)) (omega arith)) in
      omega (arith, rounded_least (all_lags ps i j) (w * w) 68434330620 some_time b)
