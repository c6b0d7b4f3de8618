-- So many points are put, and those that were put fit their fields.
use Rattle.std.proofs.Common.{◌≡◌, ◌+◌, take}
use Rattle.std.specs.List.{flat_map, AllByRecursion}
use Rattle.page.specs.Strokes.{point_bytes}
use Rattle.page.specs.Fits.{PointFits}
use Rattle.page.specs.Writes.{written}
use Rattle.page.proofs.writer.Writer.append.Given as goal

abbrev pub invariant-loop-k : goal.invariant-loop-k
invariant-loop-k l =
    (l.page ≡ written (l.used + 8) l.initial.page (flat_map point_bytes (take l.k l.points)))
    × AllByRecursion PointFits (take l.k l.points)
