use Rattle.std.proofs.Common.{get_or, ap, ◌∙◌}
use Rattle.tray.specs.declared.point.Mark.TheVariants.{Plain}
use Rattle.tray.specs.Trays.{stroke}
use Rattle.job.specs.Marking.{marked_at}
use Rattle.job.proofs.Markings.{marks_more}
use Rattle.job.proofs.marking.mark_corners.Goals as goal

pub loop-k-preserved : goal.loop-k-preserved
loop-k-preserved c =
    c.mark_one.ensures ∙ ap (λ qs. marked_at (get_or c.args.marks.now c.loop-k.k Plain) qs c.loop-k.k) c.loop-k.invariant ∙ marks_more c.args.marks.now (stroke c.args.stroke.now) c.loop-k.k Plain c.loop-k-test.true
