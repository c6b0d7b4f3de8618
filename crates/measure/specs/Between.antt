-- What is gathered over the numbers k strictly between i and j, of which there may be none.
--   gathered g z f a n   z, then by g the n terms f a, f (a + 1) and so on
--   sum_between          the sum of f k
--   sum_z_between        the same over whole numbers with signs
--   greatest_between     the greatest f k, or 0 where there is none
--   some_between         whether f k holds for some k
use Rattle.std.specs.Prelude.{ℕ, zero, suc, ◌+◌, ◌-◌, max, Bool, false, ◌||◌, ℤ, pos, ◌+ℤ◌}

abbrev pub gathered : {A : Type 0} → (A → A → A) → A → (ℕ → A) → ℕ → ℕ → A
gathered g z f a zero = z
gathered g z f a (suc n) = g (gathered g z f a n) (f (a + n))

abbrev pub sum_between : ℕ → ℕ → (ℕ → ℕ) → ℕ
sum_between i j f = gathered ◌+◌ 0 f (i + 1) (j - (i + 1))

abbrev pub sum_z_between : ℕ → ℕ → (ℕ → ℤ) → ℤ
sum_z_between i j f = gathered ◌+ℤ◌ (pos 0) f (i + 1) (j - (i + 1))

abbrev pub greatest_between : ℕ → ℕ → (ℕ → ℕ) → ℕ
greatest_between i j f = gathered max 0 f (i + 1) (j - (i + 1))

abbrev pub some_between : ℕ → ℕ → (ℕ → Bool) → Bool
some_between i j f = gathered ◌||◌ false f (i + 1) (j - (i + 1))
