-- The sum keeps the laws of a kind of total.
use Rattle.std.specs.Prelude.{ℕ, ◌*◌, ◌≤◌}
use Rattle.std.proofs.Common.{ap, arith}
use Rattle.total.specs.Laws.{Held, none, one, both, Laws, limit}
use Rattle.total.specs.Kinds.{no_sum, one_sum, add_sums, sum_order}
use Rattle.total.specs.declared.sum.Sum.{Sum}
use Rattle.total.specs.Numbers.{by_number}

fits : {k : ℕ} {a : Sum} → Held no_sum one_sum add_sums k a → a.sum ≤ k * limit
fits none = omega arith
fits (one h) = omega arith
fits (both p q) = let hp = fits p in let hq = fits q in omega arith

pub sum_laws : Laws no_sum one_sum add_sums sum_order
sum_laws =
    by_number no_sum one_sum add_sums (λ a. a.sum)
    (λ a b e. ap one_sum e)
    (λ a b c. omega arith)
    (λ k a p h. let f = fits p in (omega arith, omega arith))
    (λ a b c h. (omega arith, omega arith))
