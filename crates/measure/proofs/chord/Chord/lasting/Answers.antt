use Rattle.std.proofs.Common.{arith, ap}
use Rattle.tray.specs.declared.point.Point.{Point}
use Rattle.measure.specs.Points.{later}
use Rattle.measure.proofs.chord.Chord.lasting.Goals as goal

pub returns-clause-some : goal.returns-clause-some
returns-clause-some c =
    let s = c.args.self.now in
    let a = ap (λ (p : Point). p.t) c.start.ensures.value in
    let b = ap (λ (p : Point). p.t) c.end.ensures.value in
    omega (arith, a, b, later s.points.now s.from s.to s.lawful s.is_chord.first s.is_chord.rising s.is_chord.last)
