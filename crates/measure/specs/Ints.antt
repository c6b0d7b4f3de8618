-- Products and squares of numbers with signs, and what fits.
use Rattle.std.specs.Prelude.{◌≡◌, ℕ, suc, ◌*◌, ◌^◌, ◌<◌, ◌≤◌, ℤ, pos, negsuc, ◌*ℤ◌, neg_ℤ, FitsSigned, unsigned_abs, refl}
use Rattle.std.proofs.Common.{arith}
use Rattle.std.proofs.lemmas.Nat.{mul-le}
use Rattle.std.proofs.lemmas.Int.{ints}
use Rattle.std.specs.Int.{w32, w64}
use Rattle.measure.specs.Steps.{square}

-- ---- products and squares

abs_neg : (a : ℤ) → unsigned_abs (neg_ℤ a) ≡ unsigned_abs a
abs_neg a = omega (arith, ints)

pub abs_product : (a b : ℤ) → unsigned_abs (a *ℤ b) ≡ unsigned_abs a * unsigned_abs b
abs_product (pos a) (pos b) = refl
abs_product (pos a) (negsuc b) = abs_neg (pos (a * suc b))
abs_product (negsuc a) (pos b) = abs_neg (pos (suc a * b))
abs_product (negsuc a) (negsuc b) = refl

pub product_small : (a b : ℤ) (m n : ℕ) → unsigned_abs a ≤ m → unsigned_abs b ≤ n → unsigned_abs (a *ℤ b) ≤ m * n
product_small a b m n f g = omega (arith, abs_product a b, mul-le (unsigned_abs a) (unsigned_abs b) m n f g)

pub square_small : (z : ℤ) (n : ℕ) → unsigned_abs z ≤ n → square z ≤ n * n
square_small z n h = product_small z z n n h h

pub square_is : (z : ℤ) → z *ℤ z ≡ pos (unsigned_abs z * unsigned_abs z)
square_is (pos n) = refl
square_is (negsuc n) = refl

-- ---- what fits

pub fits32 : (z : ℤ) → unsigned_abs z < 2 ^ 31 → FitsSigned w32 z
fits32 z h = omega (arith, ints)

pub fits64 : (z : ℤ) → unsigned_abs z < 2 ^ 63 → FitsSigned w64 z
fits64 z h = omega (arith, ints)
