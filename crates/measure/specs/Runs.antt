-- What is gathered over a run of numbers: one more term, and bounds.
use Rattle.std.specs.Prelude.{◌≡◌, ℕ, zero, suc, ◌+◌, ◌*◌, ◌<◌, ◌≤◌, max, ℤ, pos, ◌+ℤ◌, unsigned_abs}
use Rattle.std.proofs.Common.{zero-le, ap, arith, add-one}
use Rattle.std.proofs.lemmas.Int.{ints}
use Rattle.measure.specs.Between.{gathered}

pub one_more : {A : Type 0} (g : A → A → A) (z : A) (f : ℕ → A) (a n : ℕ) → gathered g z f a (n + 1) ≡ g (gathered g z f a n) (f (a + n))
one_more g z f a n = ap (gathered g z f a) (add-one n)

-- ---- bounds

pub sum_z_small : (f : ℕ → ℤ) (a n b : ℕ) → ((k : ℕ) → a ≤ k → k < a + n → unsigned_abs (f k) ≤ b) → unsigned_abs (gathered ◌+ℤ◌ (pos 0) f a n) ≤ n * b
sum_z_small f a zero b h = zero-le
sum_z_small f a (suc n) b h =
    let ih = sum_z_small f a n b (λ k p q. h k p (omega arith)) in
    let one : unsigned_abs (f (a + n)) ≤ b = h (a + n) (omega arith) (omega arith) in
    omega (arith, ints, ih, one)

pub sum_small : (f : ℕ → ℕ) (a n b : ℕ) → ((k : ℕ) → a ≤ k → k < a + n → f k ≤ b) → gathered ◌+◌ 0 f a n ≤ n * b
sum_small f a zero b h = zero-le
sum_small f a (suc n) b h =
    let ih = sum_small f a n b (λ k p q. h k p (omega arith)) in
    let one : f (a + n) ≤ b = h (a + n) (omega arith) (omega arith) in
    omega (arith, ih, one)

pub greatest_small : (f : ℕ → ℕ) (a n b : ℕ) → ((k : ℕ) → a ≤ k → k < a + n → f k ≤ b) → gathered max 0 f a n ≤ b
greatest_small f a zero b h = zero-le
greatest_small f a (suc n) b h =
    let ih = greatest_small f a n b (λ k p q. h k p (omega arith)) in
    let one : f (a + n) ≤ b = h (a + n) (omega arith) (omega arith) in
    omega (arith, ih, one)
