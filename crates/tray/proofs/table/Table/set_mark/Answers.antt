use Rattle.std.proofs.Common.{◌≡◌, ◌-◌, ◌<◌, false, length, arith}
use lib.Seq.{take-set-lt}
use Rattle.std.proofs.lemmas.List.{length-set}
use Rattle.std.proofs.lemmas.Bool.Decides.{nat_tests}
use Rattle.tray.specs.Stroke.{at}
use Rattle.tray.specs.Machine.{lacks, marked}
use Rattle.tray.specs.Trays.{points}
use Rattle.tray.proofs.Tables.{length_points, at_points, limits_turned}
use Rattle.tray.proofs.table.Table.set_mark.Goals as goal

pub invariant_of-self : goal.invariant_of-self
invariant_of-self c =
    let m = c.args.self.now in
    let h : c.args.i - 1 < length m.points = omega arith in
    let k = limits_turned m.points (c.args.i - 1) c.args.mark h m.len m.placed m.rising m.short in
    record { whole = rw length-set m.whole; few = m.few; placed = k.0; rising = k.1; short = k.2 }

pub returns : goal.returns
returns c = record {
  says = rw (length_points c.args.self.now) (grind (arith, nat_tests));
  after =
      let m = c.args.self.now in
      let i = c.args.i - 1 in
      let k : i < m.len = omega arith in
      let n : lacks (points m) c.args.i ≡ false = rw length_points (grind (arith, nat_tests)) in
      rw (n, at_points m i k) (take-set-lt m.len m.points i (marked c.args.mark (at m.points i)) k);
}
