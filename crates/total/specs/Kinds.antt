-- The three kinds of total that are built.
--   sum              start 0, value e, join by adding; sums stop at 2^64 − 1
--   worst            start 0, value e, join by the greater
--   both             the sum, then the worst: a pair, sums compared first
use Rattle.std.specs.Prelude.{ℕ, ◌+◌, ◌-◌, ◌^◌, min, max, Bool, ◌&&◌, ◌||◌, ◌==◌, nat_le, nat_lt}
use Rattle.total.specs.declared.sum.Sum.{Sum}
use Rattle.total.specs.declared.worst.Worst.{Worst}
use Rattle.total.specs.declared.sum_then_worst.SumThenWorst.{SumThenWorst}

abbrev pub added : ℕ → ℕ → ℕ
added m n = min (m + n) (2 ^ 64 - 1)

abbrev pub one_sum : ℕ → Sum
one_sum e = record { sum = e }

abbrev pub no_sum : Sum
no_sum = one_sum 0

abbrev pub add_sums : Sum → Sum → Sum
add_sums a b = one_sum (added a.sum b.sum)

abbrev pub sum_order : Sum → Sum → Bool
sum_order a b = nat_le a.sum b.sum

abbrev pub one_worst : ℕ → Worst
one_worst e = record { worst = e }

abbrev pub no_worst : Worst
no_worst = one_worst 0

abbrev pub greater_worst : Worst → Worst → Worst
greater_worst a b = one_worst (max a.worst b.worst)

abbrev pub worst_order : Worst → Worst → Bool
worst_order a b = nat_le a.worst b.worst

abbrev pub both_of : ℕ → ℕ → SumThenWorst
both_of s w = record { sum = s; worst = w }

abbrev pub no_both : SumThenWorst
no_both = both_of 0 0

abbrev pub one_both : ℕ → SumThenWorst
one_both e = both_of e e

abbrev pub join_both : SumThenWorst → SumThenWorst → SumThenWorst
join_both a b = both_of (added a.sum b.sum) (max a.worst b.worst)

abbrev pub both_order : SumThenWorst → SumThenWorst → Bool
both_order a b = nat_lt a.sum b.sum || (a.sum == b.sum && nat_le a.worst b.worst)
