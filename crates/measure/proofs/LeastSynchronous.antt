-- The sum of the squares fits 64 bits, and the synchronous error is the least that serves.
use Rattle.std.specs.Prelude.{ℕ, ◌+◌, ◌-◌, ◌*◌, ◌^◌, ◌<◌, ◌≤◌, List}
use Rattle.std.proofs.Common.{subst, arith}
use Rattle.std.proofs.lemmas.Nat.{mul-le}
use Rattle.tray.specs.declared.point.Point.{Point}
use Rattle.tray.specs.Stroke.{Lawful}
use Rattle.measure.specs.Chords.{Chord, lasting}
use Rattle.measure.specs.Between.{gathered}
use Rattle.measure.specs.Synchronous.{lags_at, all_lags, synchronous_error, synchronous, LeastSynchronous}
use Rattle.measure.specs.Rounded.{rounded_least}
use Rattle.measure.specs.Points.{brief}
use Rattle.measure.specs.Answered.{answered}
use Rattle.measure.specs.Lags.{lags_sum_small, some_time}
use Rattle.measure.proofs.Serves.{rounded_serves}

module _ (ps : List Point) (i j : ℕ) (l : Lawful ps) (c : Chord ps i j) where
  pub lags_sum_fits : (n : ℕ) → n ≤ j - (i + 1) → gathered ◌+◌ 0 (lags_at ps i j) (i + 1) n < 2 ^ 63
  lags_sum_fits n h =
      let w = lasting ps i j in
      let t : w ≤ 8191 = omega (arith, brief ps i j l (omega arith) (omega arith) (omega arith)) in
      let few = l.few in
      let u = mul-le w w 8191 8191 t t in
      let v = mul-le n (134184962 * (w * w)) 510 (134184962 * (8191 * 8191)) (omega arith) (omega (arith, u)) in
      omega (arith, lags_sum_small ps i j l c n h, v)

pub least_synchronous : (ps : List Point) (i j : ℕ) → Lawful ps → LeastSynchronous ps i j (synchronous ps i j)
least_synchronous ps i j l e q =
    let a = answered synchronous_error ps i j e q in
    let w = lasting ps i j * lasting ps i j in
    let some = some_time ps i j l a.0 in
    record {
      serves = subst (λ (n : ℕ). all_lags ps i j ≤ n * w) a.1 (rounded_serves (all_lags ps i j) w some);
      no_lesser = λ f h. omega (arith, a.1, rounded_least (all_lags ps i j) w f some h);
    }
