use Rattle.cases.proofs.Premises.{premises_met}
use Rattle.cases.proofs.premises_are_met.Goals as goal

pub returns : goal.returns
returns c = premises_met
