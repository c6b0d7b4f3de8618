use Rattle.std.proofs.Common.{◌≡◌, ◌+◌, arith}
use Rattle.measure.specs.Between.{gathered}
use Rattle.measure.specs.Synchronous.{lags_at}
use Rattle.measure.specs.Runs.{one_more}
use Rattle.measure.proofs.LeastSynchronous.{lags_sum_fits}
use Rattle.measure.proofs.synchronous.synchronous_of.Goals as goal

pub lags_of-sum-requires : goal.lags_of-sum-requires
lags_of-sum-requires c = rw (c.start-p.ensures.value, c.end-q.ensures.value) (c.between-k-items.ensures.within c.loop-k.k-index c.loop-k-test.true)

-- the sum with one more point
next : (c : goal.After-lags_of-sum) →
    c.loop-k.sum + c.lags_of-sum.result ≡ gathered ◌+◌ 0 (lags_at c.args.chord.now.points.now c.args.chord.now.from c.args.chord.now.to) (c.args.chord.now.from + 1) (c.loop-k.k-index + 1)
next c =
    let s = c.args.chord.now in
    let n = c.loop-k.k-index in
    let e = one_more ◌+◌ 0 (lags_at s.points.now s.from s.to) (s.from + 1) n in
    let f = rw (c.start-p.ensures.value, c.end-q.ensures.value, c.between-k-items.ensures.numbered n c.loop-k-test.true) at c.lags_of-sum.ensures in
    omega (arith, e, f)

pub overflow_add-sum : goal.overflow_add-sum
overflow_add-sum c =
    let s = c.args.chord.now in
    record { fits = omega (arith, next c, lags_sum_fits s.points.now s.from s.to s.lawful s.is_chord (c.loop-k.k-index + 1) (omega arith)) }

pub loop-k-preserved : goal.loop-k-preserved
loop-k-preserved c = next c
