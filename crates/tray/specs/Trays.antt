-- What the types of the code stand for.
--   points    the points of a table, in their order
--   writing   a tray with the pen down, as a state
--   lifted    a tray with the pen up, as a state
--   stroke    the points of a lifted stroke
use Rattle.std.specs.Prelude.{List, take}
use Rattle.tray.specs.declared.point.Point.{Point}
use Rattle.tray.specs.declared.table.Table.{Table}
use Rattle.tray.specs.declared.tray.Writing.{Writing}
use Rattle.tray.specs.declared.tray.Lifted.{Lifted}
use Rattle.tray.specs.History.{State, at_pen, down, up}

abbrev pub points : Table → List Point
points m = take m.len m.points

abbrev pub writing : Writing → State
writing w = at_pen down (points w.table)

abbrev pub stroke : Lifted → List Point
stroke l = points l.table

abbrev pub lifted : Lifted → State
lifted l = at_pen up (stroke l)
