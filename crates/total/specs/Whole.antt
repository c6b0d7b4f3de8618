-- The three kinds of total, each with its start, its value of an error, its join and its order.
use Rattle.total.specs.declared.total.Total.{Ghosts}
use Rattle.total.specs.declared.sum.Sum.{Sum}
use Rattle.total.specs.declared.worst.Worst.{Worst}
use Rattle.total.specs.declared.sum_then_worst.SumThenWorst.{SumThenWorst}
use Rattle.total.specs.Kinds.{no_sum, one_sum, add_sums, sum_order, no_worst, one_worst, greater_worst, worst_order, no_both, one_both, join_both, both_order}

abbrev pub sum_kind : Ghosts Sum
sum_kind = record { start = no_sum; value = one_sum; join = add_sums; order = sum_order }

abbrev pub worst_kind : Ghosts Worst
worst_kind = record { start = no_worst; value = one_worst; join = greater_worst; order = worst_order }

abbrev pub both_kind : Ghosts SumThenWorst
both_kind = record { start = no_both; value = one_both; join = join_both; order = both_order }
