-- The hook meets the premises of each law.
use Rattle.std.proofs.Common.{◌≡◌, ℕ, List, [], ◌∷◌, length, take, Ok, Err, Result, sym, refl, ap, ◌∙◌, arith, lit<}
use mir.Facts.{sfits_lit}
use Rattle.tray.specs.declared.causes.Refusal.{Refusal}
use Rattle.tray.specs.Refusals.{tells}
use Rattle.tray.specs.Stroke.{Lawful}
use Rattle.tray.specs.Machine.{put_says, put_after}
use Rattle.tray.specs.Reductions.{Reduction}
use Rattle.tray.specs.History.{up, ◌▸◌, new, reduce}
use Rattle.tray.specs.Drawn.{Drawn, Permitted}
use Rattle.tray.proofs.Drawns.{run_draws}
use Rattle.tray.proofs.Lawfuls.{stays_lawful}
use Rattle.page.specs.declared.kinds.Totals.{Totals}
use Rattle.page.specs.Fits.{StrokeFits}
use Rattle.total.specs.declared.sum.Sum.{Sum}
use Rattle.total.specs.Whole.{sum_kind}
use Rattle.measure.specs.Worked.{hook}
use Rattle.reducer.specs.declared.answer.Answer.{Answer}
use Rattle.reducer.specs.Lent.{Lent}
use Rattle.reducer.specs.Reduced.{done}
use Rattle.reducer.specs.Law.{Right}
use Rattle.reducer.proofs.Runs.{run_reduce}
use Rattle.job.specs.Figures.{sum_figures}
use Rattle.job.specs.Answer.{kept, drawing, replied}
use Rattle.job.specs.Calls.{calls_of, asked, ReducedBy}
use Rattle.job.proofs.Keeping.{keeps_the_law}
use Rattle.cases.specs.Premises.{hook_dots, hook_stroke, KeepsPoints, TwoReduces, PremisesMet}

pub all_put : drawing hook_dots ≡ Ok hook
unfolding put_says put_after
all_put = refl

permitted : Permitted new (calls_of hook_dots)
permitted = (tt, (tt, (tt, (tt, (tt, (tt, tt))))))

drawn : Drawn (calls_of hook_dots) up hook
unfolding put_says put_after
drawn = run_draws (calls_of hook_dots) permitted

lawful : Lawful hook
unfolding put_says put_after
lawful = stays_lawful (calls_of hook_dots)

fits : StrokeFits (hook_stroke 5)
fits = record { number = lit< tt; points = (record { x = sfits_lit tt; y = sfits_lit tt; t = lit< tt }, (record { x = sfits_lit tt; y = sfits_lit tt; t = lit< tt }, (record { x = sfits_lit tt; y = sfits_lit tt; t = lit< tt }, (record { x = sfits_lit tt; y = sfits_lit tt; t = lit< tt }, (record { x = sfits_lit tt; y = sfits_lit tt; t = lit< tt }, tt))))); span = lit< tt; tolerance = lit< tt; codes = refl }

-- a reduce of the hook that the job answers keeps as many points as its answer lists
keeps_points : (tolerance : ℕ) (x : Result (Answer Sum) Refusal) (a : Lent Sum) (t : Totals) (ks : List ℕ) →
    kept t ks ≡ replied sum_figures (done (tells x) a) → Right hook (asked sum_kind sum_figures (hook_stroke tolerance) a x) →
    KeepsPoints (length ks) (asked sum_kind sum_figures (hook_stroke tolerance) a x).reply
keeps_points tolerance (Ok v) a t ks e r = let same : ks ≡ take v.count a.list = cc in r.keeps.counted ∙ ap length (sym same)
keeps_points tolerance (Err f) a t ks e r = let z : ◌≡◌ {A = ℕ} 0 1 = cc in absurd (omega arith)

by_job : (tolerance : ℕ) → ReducedBy sum_kind sum_figures (hook_stroke tolerance)
by_job tolerance = (keeps_the_law (hook_stroke tolerance) hook all_put).0 refl

abbrev made : ℕ → Reduction
made tolerance = asked sum_kind sum_figures (hook_stroke tolerance) (by_job tolerance).leaves (by_job tolerance).result

three_of : KeepsPoints 3 (made 5).reply
unfolding put_says put_after
three_of = keeps_points 5 (by_job 5).result (by_job 5).leaves _ (1 ∷ 2 ∷ 5 ∷ []) (by_job 5).answers (by_job 5).law.right

two_of : KeepsPoints 2 (made 41).reply
unfolding put_says put_after
two_of = keeps_points 41 (by_job 41).result (by_job 41).leaves _ (1 ∷ 5 ∷ []) (by_job 41).answers (by_job 41).law.right

two_reduces : TwoReduces
two_reduces = record {
  history = calls_of hook_dots ▸ reduce (made 5) ▸ reduce (made 41);
  narrow = made 5;
  wide = made 41;
  run = run_reduce hook (made 41) (by_job 41).law.right (calls_of hook_dots ▸ reduce (made 5)) (by_job 5).runs;
  narrow_met = record { before = calls_of hook_dots; after = reduce (made 41) ∷ []; whole = refl; drawn = drawn };
  wide_met = record { before = calls_of hook_dots ▸ reduce (made 5); after = []; whole = refl; drawn = (by_job 5).runs.drawn };
  one_measure = λ i j. refl;
  wider = omega arith;
  keeps_three = three_of;
  keeps_two = two_of;
}

pub premises_met : PremisesMet
premises_met = record {
  lawful = lawful;
  permitted = permitted;
  all_put = all_put;
  fits = fits;
  reduces = two_reduces;
}
