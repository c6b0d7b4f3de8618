use Rattle.std.proofs.Common.{◌≡◌, ◌+◌, ◌-◌, ◌<◌, take, drop, arith, length-take}
use Rattle.std.proofs.lemmas.Grind.{common_steps}
use Rattle.tray.specs.Stroke.{at, numbered}
use Rattle.measure.proofs.Parts.{within_chord}
use Rattle.measure.proofs.chord.Chord.between.Goals as goal

pub returns-clause-within : goal.returns-clause-within
returns-clause-within c n h =
    let s = c.args.self.now in
    let ps = s.points.now in
    let m : n < s.to - 1 - s.from = omega (arith, length-take (s.to - 1 - s.from) (drop s.from ps)) in
    let e : at (take (s.to - 1 - s.from) (drop s.from ps)) n ≡ numbered ps (s.from + 1 + n) = grind (arith, common_steps) in
    within_chord ps s.from s.to (s.from + 1 + n) _ s.lawful s.is_chord (omega arith) (omega arith) e
