use Rattle.std.proofs.Common.{◌≡◌, ℕ, ◌≤◌, length, arith}
use Rattle.tray.specs.Trays.{stroke}
use Rattle.reducer.specs.Asked.{asked}
use Rattle.reducer.proofs.Optimal.{Sound, sound, entry_few}
use Rattle.reducer.proofs.Entries.{Partly, partly_more, same_tables}
use Rattle.reducer.proofs.search.Search.relax.Goals as goal
use Rattle.reducer.proofs.search.Search.relax.Given.{Over}
use Rattle.reducer.proofs.search.Search.relax.Goals.{After-points-n, After-set}

-- what is asked is sound
known : (g : Over) (c : After-points-n g) → Sound (asked g.T.Total g.M.Measure.meaning c.args.self.now) (length (stroke c.args.self.now.stroke.now))
known g c =
    let ps = stroke c.args.self.now.stroke.now in
    sound (asked g.T.Total g.M.Measure.meaning c.args.self.now) (length ps) c.points-n.result g.met.T.Total.lawful (g.met.M.Measure.within c.args.self.now.measure.now ps) c.points-n.ensures.value c.points-n.ensures.few c.requires.tolerated

pub best_step-found-requires : goal.best_step-found-requires
best_step-found-requires g c =
    let ps = stroke c.args.self.now.stroke.now in
    let k = asked g.T.Total g.M.Measure.meaning c.args.self.now in
    let ok = known g (goal.at.best_step-found-requires g c).After-points-n in
    let same = c.loop-j.invariant.0 in
    let room = c.requires.room in
    let high : c.loop-j.j ≤ length ps = omega (arith, c.loop-j-test.true, c.points-n.ensures.value) in
    record {
      low = c.loop-j.auto.j;
      high = omega (arith, high, ok.few);
      room = (omega (arith, high, same.long_counts, room.0), omega (arith, high, same.long_preds, room.1), omega (arith, high, same.long_totals, room.2));
      few = λ i a b. entry_few k (length ps) ok i _ _ _ (c.loop-j.invariant.1.filled i a (omega arith));
    }

-- one entry more is as it should be
more : (g : Over) (c : After-set g) → Sound (asked g.T.Total g.M.Measure.meaning c.args.self.now) (length (stroke c.args.self.now.stroke.now)) → (m : ℕ) → c.loop-j.j ≡ m →
    Partly (asked g.T.Total g.M.Measure.meaning c.args.self.now) m (length (stroke c.args.self.now.stroke.now)) c.args.tables.now c.set.new.self
more g c ok =
    partly_more (asked g.T.Total g.M.Measure.meaning c.args.self.now) (length (stroke c.args.self.now.stroke.now)) ok c.args.tables.now c.loop-j.tables c.set.new.self c.requires.room c.loop-j.invariant.0 c.loop-j.j c.loop-j.auto.j (omega (arith, c.loop-j-test.true, c.points-n.ensures.value))
    c.best_step-found.result c.none.result c.unwrap_or.result c.loop-j.invariant.1 c.best_step-found.ensures c.none.ensures c.unwrap_or.ensures c.set.ensures.counts c.set.ensures.preds c.set.ensures.totals

pub loop-j-preserved : goal.loop-j-preserved
loop-j-preserved g c =
    let ok = known g (goal.at.loop-j-preserved g c).After-points-n in
    (same_tables c.loop-j.invariant.0 c.set.ensures.same, more g (goal.at.loop-j-preserved g c).After-set ok _ (omega arith))

pub returns-2-clause-relaxed : goal.returns-2-clause-relaxed
returns-2-clause-relaxed g c =
    let ps = stroke c.args.self.now.stroke.now in
    let ok = known g (goal.at.returns-2-clause-relaxed g c).After-points-n in
    let all = more g (goal.at.returns-2-clause-relaxed g c).After-set ok (length ps) (omega (arith, c.loop-j-test.true, c.points-n.ensures.value)) in
    record { filled = all.filled; counts_kept = all.counts_kept; preds_kept = all.preds_kept; totals_kept = all.totals_kept }
