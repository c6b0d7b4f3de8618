use Rattle.std.proofs.Common.{◌≡◌, ◌+◌}
use Rattle.measure.specs.Between.{gathered}
use Rattle.measure.specs.Synchronous.{lags_at}
use Rattle.measure.proofs.synchronous.synchronous_of.Given as goal

abbrev pub invariant-loop-k : goal.invariant-loop-k
invariant-loop-k l = l.sum ≡ gathered ◌+◌ 0 (lags_at l.chord.points.now l.chord.from l.chord.to) (l.chord.from + 1) l.k-index
