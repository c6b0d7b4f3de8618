-- So many kept numbers are put.
use Rattle.std.proofs.Common.{◌≡◌, ◌+◌, take}
use Rattle.std.specs.List.{flat_map}
use Rattle.page.specs.Little.{le}
use Rattle.page.specs.Writes.{written}
use Rattle.page.proofs.writer.Writer.append_kept.Given as goal

abbrev pub invariant-loop-k : goal.invariant-loop-k
invariant-loop-k l =
    l.page ≡ written (l.used + 24) l.initial.page (flat_map (le 2) (take l.k l.numbers))
