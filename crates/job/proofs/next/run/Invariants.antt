use Rattle.std.proofs.Common.{◌≡◌, length, drop}
use Rattle.page.specs.Steps.{reading}
use Rattle.job.specs.Jobs.{answering, jobbed, to_read}
use Rattle.job.proofs.next.run.Given as goal

abbrev pub invariant-loop : goal.invariant-loop
invariant-loop l =
    (answering l.job.count l.job.writer.used l.answers (to_read l.job).strokes (to_read l.job).ending ≡ jobbed l.page l.initial.answers)
    × ((to_read l.job).strokes ≡ drop l.job.count (reading l.page).strokes)

abbrev pub decreases-loop : goal.decreases-loop
decreases-loop l = length l.job.walk.rest.now
