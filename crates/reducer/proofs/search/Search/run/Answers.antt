use Rattle.std.proofs.Common.{◌≡◌, ◌+◌, ◌-◌, ◌≤◌, length, drop, sym, refl, ap, ◌∙◌, subst, arith}
use Rattle.std.proofs.lemmas.List.{take_at, drop_at, length-take-le}
use Rattle.std.specs.Result.{result_ok}
use Rattle.tray.specs.Trays.{stroke}
use Rattle.reducer.specs.Asked.{asked}
use Rattle.reducer.specs.Chains.{Answered}
use Rattle.reducer.specs.Trail.{trail, Led}
use Rattle.reducer.proofs.Ends.{Ends, ends}
use Rattle.reducer.proofs.Optimal.{sound}
use Rattle.reducer.proofs.search.Search.run.Goals as goal
use Rattle.reducer.proofs.search.Search.run.Given.{Over}
use Rattle.reducer.proofs.search.Search.run.Goals.{In_ok-best}

-- what is known once the last point has a pair
known : (g : Over) (c : In_ok-best g) → Ends (asked g.T.Total g.M.Measure.meaning c.args.self.now) (length (stroke c.args.self.now.stroke.now)) c.points-n.result c.args.tables.now c.relax.new.tables c.args.list.now c.in_ok-best.best
known g c =
    let n = c.points-n.result in
    let ps = stroke c.args.self.now.stroke.now in
    let k = asked g.T.Total g.M.Measure.meaning c.args.self.now in
    let ok = sound k (length ps) n g.met.T.Total.lawful (g.met.M.Measure.within c.args.self.now.measure.now ps) c.points-n.ensures.value c.points-n.ensures.few c.if-self-gt-LIMIT.false in
    ends k (length ps) n c.args.tables.now c.relax.new.tables c.args.list.now c.in_ok-best.best ok c.points-n.ensures.value c.if-n-eq0.false (sym c.is_short.ensures ∙ c.if-is_short.false) c.relax.ensures.same c.relax.ensures.relaxed (sym c.pair.ensures ∙ c.ok_or.ensures.ok_part ∙ ap result_ok c.in_ok-best.was)

pub overflow_add-needed : goal.overflow_add-needed
overflow_add-needed g c =
    let end = known g (goal.at.overflow_add-needed g c).In_ok-best in
    record { fits = omega (arith, end.few) }

pub returns-then-list-count-clause-outcome : goal.returns-then-list-count-clause-outcome
returns-then-list-count-clause-outcome g c =
    let ps = stroke c.args.self.now.stroke.now in
    let k = asked g.T.Total g.M.Measure.meaning c.args.self.now in
    let best = c.in_ok-best.best in
    let end = known g (goal.at.returns-then-list-count-clause-outcome g c).In_ok-best in
    record {
      searched = end.searched _;
      counted = omega arith;
      total = _;
      points = _;
      answered = subst (λ m. Answered k (length ps) m best.total (trail c.relax.new.tables.preds.now c.points-n.result (best.chords + 1))) (omega arith) end.answered;
      room = omega (arith, c.if-list-count.true);
      same = refl;
    }

pub walk-requires : goal.walk-requires
walk-requires g c =
    let n = c.points-n.result in
    let end = known g (goal.at.walk-requires g c).In_ok-best in
    subst (λ m. Led c.relax.new.tables.preds.now n m) (sym (length-take-le (c.in_ok-best.best.chords + 1) c.args.list.now (omega (arith, c.if-list-count.false)))) end.led

pub returns-clause-outcome : goal.returns-clause-outcome
returns-clause-outcome g c =
    let n = c.points-n.result in
    let ps = stroke c.args.self.now.stroke.now in
    let k = asked g.T.Total g.M.Measure.meaning c.args.self.now in
    let end = known g (goal.at.returns-clause-outcome g c).In_ok-best in
    let count = c.in_ok-best.best.chords + 1 in
    let room : count ≤ length c.args.list.now = omega (arith, c.if-list-count.false) in
    let size = length-take-le count c.args.list.now room in
    let long : length c.walk.new.list ≡ count = c.walk.auto.list ∙ size in
    let kept : c.walk.new.list ≡ trail c.relax.new.tables.preds.now n count = subst (λ m. c.walk.new.list ≡ trail c.relax.new.tables.preds.now n m) size c.walk.ensures in
    record {
      searched = end.searched _;
      counted = omega arith;
      room = room;
      answered = subst (λ ks. Answered k (length ps) (count - 1) c.in_ok-best.best.total ks) (sym (take_at c.walk.new.list _ count long ∙ kept)) end.answered;
      rest = drop_at c.walk.new.list (drop count c.args.list.now) count long;
    }
