-- Rounding up gives no more than a number that serves.
use Rattle.std.specs.Prelude.{ℕ, zero, suc, ◌+◌, ◌*◌, ◌/◌, ◌%◌, ◌<◌, ◌≤◌, min}
use Rattle.std.proofs.Common.{lt_of_mul-lt-mul_right, le_of_mul-le-mul_right, arith}
use Rattle.std.proofs.lemmas.Nat.{div-add-mod'}
use Rattle.measure.specs.Steps.{rounded_up}

up_least : (q r d e : ℕ) → 0 < d → q * d + r ≤ e * d → q + min 1 r ≤ e
up_least q zero d e p h =
    let k : q ≤ e = le_of_mul-le-mul_right {k = d} (omega arith) p in
    omega arith
up_least q (suc r) d e p h =
    let k : q < e = lt_of_mul-lt-mul_right d (omega arith) in
    omega arith

pub rounded_least : (n d e : ℕ) → 0 < d → n ≤ e * d → rounded_up n d ≤ e
rounded_least n d e p h = up_least (n / d) (n % d) d e p (omega (arith, div-add-mod' n d))
