use Rattle.reducer.specs.Asked.{asked}
use Rattle.reducer.specs.Scan.{offer}
use Rattle.reducer.proofs.Scans.{scan_more}
use Rattle.reducer.proofs.search.Search.best_step.Goals as goal

pub loop-i-preserved : goal.loop-i-preserved
loop-i-preserved g c =
    let t = g.T.Total in
    let f = offer (asked t g.M.Measure.meaning c.args.self.now) c.args.tables.now.counts.now c.args.tables.now.totals.now c.args.j in
    let more = scan_more t.order f c.loop-i.i c.loop-i.auto.i in
    cc
