use Rattle.std.proofs.Common.{◌≡◌, Some, sym, ◌∙◌, rules}
use Rattle.tray.specs.Trays.{stroke}
use Rattle.measure.specs.Distance.{distance}
use Rattle.measure.proofs.LeastDistance.{least_distance}
use Rattle.measure.proofs.distance.DistanceMeasure.error.Goals as goal

pub returns-clause-least : goal.returns-clause-least
returns-clause-least c e q =
    let v : Some c.distance_of.result ≡ distance (stroke c.args.stroke.now) c.args.i c.args.j = search rules in
    least_distance (stroke c.args.stroke.now) c.args.i c.args.j e (sym v ∙ q)
