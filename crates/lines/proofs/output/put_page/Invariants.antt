use Rattle.std.proofs.Common.{length}
use Rattle.job.specs.Jobs.{to_read}
use Rattle.lines.specs.Output.{read_text, page_text}
use Rattle.lines.proofs.Outputs.{Left, Room}
use Rattle.lines.proofs.output.put_page.Given as goal

-- what is put and what is left are the page's lines
abbrev pub invariant-loop-next : goal.invariant-loop-next
invariant-loop-next g l =
    Left (g.L.Lines.held l.initial.lines) (g.L.Lines.held l.lines) (read_text (to_read l.job)) (page_text l.page) × Room l.job l.answers

abbrev pub decreases-loop-next : goal.decreases-loop-next
decreases-loop-next g l = length l.job.walk.rest.now
