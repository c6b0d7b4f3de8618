use Rattle.std.proofs.Common.{◌≡◌, length, subst, rules}
use Rattle.tray.specs.Trays.{stroke, lifted}
use Rattle.tray.specs.Refusals.{tells}
use Rattle.tray.specs.History.{reduce}
use Rattle.tray.proofs.Tables.{lawful_points}
use Rattle.reducer.specs.Asked.{lent_with}
use Rattle.reducer.specs.Chains.{task}
use Rattle.reducer.specs.Exact.{Exact, ExactGoesOn}
use Rattle.reducer.specs.Law.{Law}
use Rattle.reducer.specs.Lent.{lent}
use Rattle.reducer.specs.Outcome.{Outcome}
use Rattle.reducer.specs.Reduced.{done, reduced}
use Rattle.reducer.specs.Runs.{GoesOn}
use Rattle.reducer.proofs.Equals.{equals}
use Rattle.reducer.proofs.Exacts.{exact, exact_reduce, exact_steps}
use Rattle.reducer.proofs.Rights.{right}
use Rattle.reducer.proofs.Runs.{run_reduce, steps_go_on, law}
use Rattle.reducer.proofs.reduce.reduce.Goals as goal

-- the lent tables end as what the struct of them ends as
pub returns : goal.returns
returns g c =
    let ps = stroke c.args.stroke.now in
    let few = (lawful_points c.args.stroke.now.table).few in
    let within = g.met.M.Measure.within c.args.measure.now ps in
    let k = task g.T.Total (g.M.Measure.meaning c.args.measure.now ps) c.args.tolerance in
    let b = lent c.args.counts.now c.args.preds.now c.args.totals.now c.args.list.now in
    let a = lent_with c.run.new.tables c.run.new.list in
    let made = c.run.ensures.outcome in
    let same = c.run.ensures.same in
    let x = right g.T.Total (g.M.Measure.meaning c.args.measure.now) ps c.args.tolerance b a g.met.T.Total.lawful few within _ made in
    let told = exact g.T.Total (g.M.Measure.meaning c.args.measure.now) ps c.args.tolerance b a g.met.T.Total.lawful few within _ made in
    record {
      equals = subst (λ a. done (tells c.run.result) a ≡ reduced k (length ps) b) (search rules)
          (equals k (length ps) (λ le. record { laws = g.met.T.Total.lawful; few = few; within = within; tolerated = le }) b a (same.long_counts, same.long_preds, same.long_totals) _ made);
      outcome = subst (λ a. Outcome k (length ps) b a c.run.result) (search rules) made;
      law = subst (λ r. Law ps r) (search rules) (law ps _ x);
      runs = subst (λ r. GoesOn (lifted c.args.stroke.now) (reduce r) (lifted c.args.stroke.now)) (search rules) (run_reduce ps _ x);
      other_calls = steps_go_on;
      exact = subst (λ r. Exact ps r) (search rules) told;
      exact_runs = subst (λ r. ExactGoesOn (lifted c.args.stroke.now) (reduce r) (lifted c.args.stroke.now)) (search rules) (exact_reduce ps _ told);
      other_calls_exact = exact_steps;
    }
