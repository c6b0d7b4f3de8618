use Rattle.std.proofs.Common.{ap, rules}
use Rattle.tray.specs.History.{State}
use Rattle.tray.proofs.Lawfuls.{stays_lawful, takes_the_lawful}
use Rattle.tray.proofs.Drawns.{run_draws, drawn_is}
use Rattle.tray.proofs.tray.Writing.new.Goals as goal

pub returns : goal.returns
returns c = record {
  bare = search rules;
  draws_exactly = (run_draws, λ h n ps d. (ap (λ (s : State). s.pen) (drawn_is d), ap (λ (s : State). s.points) (drawn_is d)));
  stays_lawful = stays_lawful;
  takes_the_lawful = takes_the_lawful;
}
