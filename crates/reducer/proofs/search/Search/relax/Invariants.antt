use Rattle.std.proofs.Common.{◌-◌, length}
use Rattle.tray.specs.Trays.{stroke}
use Rattle.reducer.specs.Asked.{asked, SameTables}
use Rattle.reducer.proofs.Entries.{Partly}
use Rattle.reducer.proofs.search.Search.relax.Given as goal

abbrev pub invariant-loop-j : goal.invariant-loop-j
invariant-loop-j g l =
    SameTables l.initial.tables l.tables
    × Partly (asked g.T.Total g.M.Measure.meaning l.self) (l.j - 1) (length (stroke l.self.stroke.now)) l.initial.tables l.tables
