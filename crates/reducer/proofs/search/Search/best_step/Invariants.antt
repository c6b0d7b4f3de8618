use Rattle.std.proofs.Common.{◌≡◌, ◌-◌}
use Rattle.reducer.specs.Asked.{asked}
use Rattle.reducer.specs.Scan.{offer, scan}
use Rattle.reducer.proofs.search.Search.best_step.Given as goal

abbrev pub invariant-loop-i : goal.invariant-loop-i
invariant-loop-i g l =
    let t = g.T.Total in
    l.found ≡ scan t.order (offer (asked t g.M.Measure.meaning l.self) l.tables.counts.now l.tables.totals.now l.j) (l.i - 1)
