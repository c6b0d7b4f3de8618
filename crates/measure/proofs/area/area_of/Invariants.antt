use Rattle.std.proofs.Common.{◌≡◌, ◌+◌, ◌-ℤ◌}
use Rattle.tray.specs.Stroke.{numbered}
use Rattle.measure.specs.Area.{swept}
use Rattle.measure.proofs.area.area_of.Given as goal

abbrev pub invariant-loop-p : goal.invariant-loop-p
invariant-loop-p l =
    record {
      swept_is : l.sum ≡ swept l.chord.points.now l.chord.from (l.chord.from + l.p-index);
      across : l.last.dx ≡ (numbered l.chord.points.now (l.chord.from + l.p-index)).x -ℤ l.o.x;
      up : l.last.dy ≡ (numbered l.chord.points.now (l.chord.from + l.p-index)).y -ℤ l.o.y;
    }
