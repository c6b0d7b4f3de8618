use Rattle.std.proofs.Common.{◌≡◌, Some, sym, ◌∙◌, rules}
use Rattle.tray.specs.Trays.{stroke}
use Rattle.tray.proofs.Tables.{lawful_points}
use Rattle.measure.specs.Synchronous.{synchronous}
use Rattle.measure.proofs.LeastSynchronous.{least_synchronous}
use Rattle.measure.proofs.synchronous.SynchronousMeasure.error.Goals as goal

pub returns-clause-least : goal.returns-clause-least
returns-clause-least c e q =
    let v : Some c.synchronous_of.result ≡ synchronous (stroke c.args.stroke.now) c.args.i c.args.j = search rules in
    least_synchronous (stroke c.args.stroke.now) c.args.i c.args.j (lawful_points c.args.stroke.now.table) e (sym v ∙ q)
