-- Worst first breaks the law that joining the same total keeps the order.
use Rattle.std.proofs.Common.{ℕ, refl, arith}
use Rattle.std.proofs.lemmas.Bool.{false≢true}
use Rattle.total.specs.declared.sum_then_worst.SumThenWorst.{SumThenWorst}
use Rattle.total.specs.Laws.{Held, one, both}
use Rattle.total.specs.Kinds.{no_both, one_both, join_both, both_of}
use Rattle.total.specs.Unlawful.{WorstFirstIsUnlawful}

abbrev H : ℕ → SumThenWorst → Type 0
H = Held no_both one_both join_both

unit : H 1 (both_of 1 1)
unit = one {e = 1} (omega arith)

five : H 5 (both_of 5 1)
five = both unit (both unit (both unit (both unit unit)))

ten : H 10 (both_of 10 1)
ten = both five five

two : H 1 (both_of 2 2)
two = one {e = 2} (omega arith)

three : H 1 (both_of 3 3)
three = one {e = 3} (omega arith)

pub worst_first_is_unlawful : WorstFirstIsUnlawful
worst_first_is_unlawful laws = false≢true (laws.after ten two three (omega arith) (omega arith) refl)
