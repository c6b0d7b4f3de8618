use Rattle.std.proofs.Common.{◌≡◌, ◌+◌, ◌-◌, max, ap, arith}
use Rattle.tray.specs.Stroke.{numbered}
use Rattle.measure.specs.Steps.{dot}
use Rattle.measure.specs.Sides.{sided}
use Rattle.measure.proofs.Casts.{stripped}
use Rattle.measure.specs.Runs.{one_more}
use Rattle.measure.proofs.Heights.{past, along, past_at, along_at, whole_of, distance_is, alongs_small}
use Rattle.measure.proofs.distance.distance_of.Goals as goal
use Rattle.measure.proofs.distance.distance_of.Goals.{in-Past, in-Along, After-unsigned_abs}

pub side_of-requires : goal.side_of-requires
side_of-requires c = rw (c.start-p.ensures.value, c.end-q.ensures.value) (c.between-k-items.ensures.within c.loop-k.k-index c.loop-k-test.true)

pub loop-k-preserved : goal.loop-k-preserved
loop-k-preserved c =
    let s = c.args.chord.now in
    let n = c.loop-k.k-index in
    let e = one_more max 0 (past_at s.points.now s.from s.to) (s.from + 1) n in
    let f = one_more max 0 (along_at s.points.now s.from s.to) (s.from + 1) n in
    let k = c.between-k-items.ensures.numbered n c.loop-k-test.true in
    let t : c.side_of.result ≡ sided (numbered s.points.now s.from) (numbered s.points.now s.to) (numbered s.points.now (s.from + 1 + n)) = cc in
    let g = ap past t in
    let h = ap along t in
    let m = c.loop-k.invariant in
    elim c.match-side_of.branch [
      | in-Past w ↦
          record { past_is = omega (arith, e, g, ap past w.in-Past.is, w.past-is, w.max-past.ensures); along_is = omega (arith, f, h, ap along w.in-Past.is, w.along-is) }
      | in-Along w ↦
          record { past_is = omega (arith, e, g, ap past w.in-Along.is, w.past-is); along_is = omega (arith, f, h, ap along w.in-Along.is, w.along-is, w.max-along.ensures) }
    ]

-- the square of the chord's length, as it is passed to `settled`
whole_is : (c : goal.After-unsigned_abs) → c.unsigned_abs.result ≡ whole_of c.args.chord.now.points.now c.args.chord.now.from c.args.chord.now.to
whole_is c =
    let s = c.args.chord.now in
    let d : c.dot.result ≡ dot (numbered s.points.now s.from) (numbered s.points.now s.to) (numbered s.points.now s.to) = cc in
    stripped _ _ _ c.dot.ensures.small c.unsigned_abs.ensures.value d

pub settled-requires : goal.settled-requires
settled-requires c =
    λ some.
    let s = c.args.chord.now in
    let n : c.loop-k.k-index ≡ s.to - (s.from + 1) = omega arith in
    omega (arith, whole_is c, rw n at c.loop-k.invariant.along_is, alongs_small s.points.now s.from s.to s.lawful s.is_chord)

pub returns : goal.returns
returns c =
    let s = c.args.chord.now in
    let n : c.loop-k.k-index ≡ s.to - (s.from + 1) = omega arith in
    let w = whole_is (goal.at.returns c).After-unsigned_abs in
    let e = distance_is s.points.now s.from s.to s.lawful s.is_chord in
    cc
