use Rattle.std.proofs.Common.{◌≡◌, ◌++◌, length, drop}
use Rattle.reducer.specs.Trail.{trail, Led}
use Rattle.reducer.proofs.tables.Tables.walk.Given as goal

abbrev pub invariant-loop-left : goal.invariant-loop-left
invariant-loop-left g l =
    Led l.self.preds.now l.at l.left
    × (trail l.self.preds.now l.at l.left ++ drop l.left l.list ≡ trail l.self.preds.now l.last (length l.list))
