use Rattle.std.proofs.Common.{◌≡◌, ◌+◌, ◌+ℤ◌, sym, arith, w32, w64, SFits, to_z, of_z}
use Rattle.std.proofs.lemmas.Int.{to_z-of_z}
use Rattle.tray.specs.Stroke.{numbered}
use Rattle.measure.specs.Area.{swept}
use Rattle.measure.specs.Steps.{cross}
use Rattle.measure.specs.Ints.{fits64}
use Rattle.measure.proofs.Casts.{widened}
use Rattle.measure.specs.Swept.{swept_small}
use Rattle.measure.proofs.Turns.{swept_more}
use Rattle.measure.proofs.area.area_of.Goals as goal

turn_is : (c : goal.After-cross) →
    let s = c.args.chord.now in
    let n = c.loop-p.p-index in
    c.cross.result ≡ cross (numbered s.points.now s.from) (numbered s.points.now (s.from + n)) (numbered s.points.now (s.from + 1 + n))
turn_is c = let f = c.after_start-p-items.ensures.numbered c.loop-p.p-index c.loop-p-test.true in cc

sum_is : (c : goal.After-cross) → c.loop-p.sum +ℤ c.cross.result ≡ swept c.args.chord.now.points.now c.args.chord.now.from (c.args.chord.now.from + (c.loop-p.p-index + 1))
sum_is c =
    let s = c.args.chord.now in
    let e = swept_more s.points.now s.from c.loop-p.p-index in
    rw (turn_is c, sym c.loop-p.sum-is, c.loop-p.invariant.swept_is) (sym e)

sum_fits : (c : goal.After-cross) → SFits w64 (c.loop-p.sum +ℤ c.cross.result)
sum_fits c =
    let s = c.args.chord.now in
    let few = s.lawful.few in
    let b = swept_small s.points.now s.from (s.from + (c.loop-p.p-index + 1)) s.lawful (record { first = omega arith; rising = omega arith; last = omega arith }) in
    fits64 _ (omega (arith, rw (← sum_is c) at b))

wide : (c : goal.After-cross) → to_z w64 (of_z w64 (to_z w32 (of_z w32 c.cross.result))) ≡ c.cross.result
wide c = widened c.cross.result (omega (arith, c.cross.ensures.small))

pub overflow_add-sum : goal.overflow_add-sum
overflow_add-sum c = simp (wide c, c.loop-p.sum-is) (sum_fits c)

pub loop-p-preserved : goal.loop-p-preserved
loop-p-preserved c =
    let s = c.args.chord.now in
    let n = c.loop-p.p-index in
    let f = sum_fits c in
    let k : s.from + 1 + n ≡ s.from + (n + 1) = omega arith in
    let at_next = rw k at (c.after_start-p-items.ensures.numbered n c.loop-p-test.true) in
    record {
      swept_is = simp (wide c, to_z-of_z, c.loop-p.sum-is) (sum_is c);
      across = rw (sym at_next) c.between-next.ensures.across;
      up = rw (sym at_next) c.between-next.ensures.up;
    }
