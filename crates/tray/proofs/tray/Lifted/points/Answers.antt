use Rattle.std.proofs.Common.{◌≡◌, ◌-◌, sym, subst, rules}
use borrow.Rule.Slice.PartMut.{mid_of}
use Rattle.tray.specs.Stroke.{Lawful}
use Rattle.tray.specs.Trays.{points}
use Rattle.tray.proofs.Tables.{lawful_points}
use Rattle.tray.proofs.tray.Lifted.points.Goals as goal

pub returns : goal.returns
returns c =
    let m = c.args.self.now.table in
    let e : mid_of 0 (m.len - 0) m.points ≡ points m = search rules in
    record { value = e; lawful = subst Lawful (sym e) (lawful_points m) }
