-- A pair of the greatest error and the sum, compared by the greatest error first.
--   worst_first            its order
--   WorstFirstIsUnlawful   no kind with this order keeps the laws: (1, 10) precedes (2, 2), and joined with (3, 3) they change places
use Rattle.std.specs.Prelude.{Bool, ◌&&◌, ◌||◌, ◌==◌, nat_le, nat_lt}
use Rattle.total.specs.declared.sum_then_worst.SumThenWorst.{SumThenWorst}
use Rattle.total.specs.Kinds.{no_both, one_both, join_both}
use Rattle.total.specs.Laws.{Laws}

abbrev pub worst_first : SumThenWorst → SumThenWorst → Bool
worst_first a b = nat_lt a.worst b.worst || (a.worst == b.worst && nat_le a.sum b.sum)

abbrev pub WorstFirstIsUnlawful : Type 0
WorstFirstIsUnlawful = Laws no_both one_both join_both worst_first → ⊥
