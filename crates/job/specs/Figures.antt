-- The two total fields of an answer: one figure leaves the second field 0, a pair has its sum and then its worst.
use Rattle.page.specs.declared.kinds.Totals.{Totals}
use Rattle.total.specs.declared.sum.Sum.{Sum}
use Rattle.total.specs.declared.worst.Worst.{Worst}
use Rattle.total.specs.declared.sum_then_worst.SumThenWorst.{SumThenWorst}

abbrev pub sum_figures : Sum → Totals
sum_figures t = record { first = t.sum; second = 0 }

abbrev pub worst_figures : Worst → Totals
worst_figures t = record { first = t.worst; second = 0 }

abbrev pub both_figures : SumThenWorst → Totals
both_figures t = record { first = t.sum; second = t.worst }
