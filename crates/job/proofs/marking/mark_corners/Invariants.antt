use Rattle.std.proofs.Common.{◌≡◌, take}
use Rattle.tray.specs.Trays.{stroke}
use Rattle.job.specs.Marking.{cornered_by}
use Rattle.job.proofs.marking.mark_corners.Given as goal

abbrev pub invariant-loop-k : goal.invariant-loop-k
invariant-loop-k l = stroke l.stroke ≡ cornered_by (take l.k l.marks) (stroke l.initial.stroke)
