-- What is rounded up serves, and what is the greatest is reached.
use Rattle.std.specs.Prelude.{◌≡◌, ℕ, zero, suc, ◌+◌, ◌*◌, ◌/◌, ◌%◌, ◌<◌, ◌≤◌, min, max}
use Rattle.std.proofs.Common.{ap, ⊎_elim, arith}
use Rattle.std.proofs.lemmas.Nat.{div-add-mod'}
use Rattle.std.proofs.lemmas.Bool.{cases_lt}
use Rattle.measure.specs.Between.{gathered}
use Rattle.measure.specs.Steps.{rounded_up}

up_serves : (q r d : ℕ) → r < d → q * d + r ≤ (q + min 1 r) * d
up_serves q zero d h = omega arith
up_serves q (suc r) d h =
    let e : min 1 (suc r) ≡ 1 = omega arith in
    rw e (omega arith)

pub rounded_serves : (n d : ℕ) → 0 < d → n ≤ rounded_up n d * d
rounded_serves n d p = omega (arith, up_serves (n / d) (n % d) d (omega arith), div-add-mod' n d)

pub greatest_reached : (f : ℕ → ℕ) (a n k : ℕ) → a ≤ k → k < a + n → f k ≤ gathered max 0 f a n
greatest_reached f a zero k p q = absurd (omega arith)
greatest_reached f a (suc n) k p q =
    ⊎_elim
    (λ l. omega (arith, greatest_reached f a n k p l))
    (λ g. let e : a + n ≡ k = omega arith in omega (arith, ap f e))
    (cases_lt k (a + n))
