-- The worst keeps the laws of a kind of total.
use Rattle.std.proofs.Common.{ap, arith}
use Rattle.total.specs.Laws.{Laws}
use Rattle.total.specs.Kinds.{no_worst, one_worst, greater_worst, worst_order}
use Rattle.total.specs.Numbers.{by_number}

pub worst_laws : Laws no_worst one_worst greater_worst worst_order
worst_laws =
    by_number no_worst one_worst greater_worst (λ a. a.worst)
    (λ a b e. ap one_worst e)
    (λ a b c. omega arith)
    (λ k a p h. (omega arith, omega arith))
    (λ a b c h. (omega arith, omega arith))
