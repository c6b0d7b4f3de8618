use Rattle.std.proofs.Common.{◌≡◌}
use Rattle.measure.proofs.Heights.{most_past, most_along}
use Rattle.measure.proofs.distance.distance_of.Given as goal

abbrev pub invariant-loop-k : goal.invariant-loop-k
invariant-loop-k l =
    record {
      past_is : l.past ≡ most_past l.chord.points.now l.chord.from l.chord.to l.k-index;
      along_is : l.along ≡ most_along l.chord.points.now l.chord.from l.chord.to l.k-index;
    }
