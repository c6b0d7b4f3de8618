-- The calls that a job makes for a stroke are a run, and its reduce keeps the law.
use Rattle.std.proofs.Common.{◌≡◌, ℕ, ◌+◌, List, [], ◌∷◌, ◌++◌, map, length, set, Ok, Err, Result, sym, refl, ap, ◌∙◌, subst, append_assoc, append-nil, arith}
use mathlib.Core.List.{foldl}
use Rattle.std.proofs.lemmas.List.{get_or_at, set_at, length_push}
use Rattle.refusal.specs.declared.Told.{Told}
use Rattle.tray.specs.declared.point.Point.{Point}
use Rattle.tray.specs.declared.point.Mark.{Mark}
use Rattle.tray.specs.declared.point.Mark.TheVariants.{Plain, Corner}
use Rattle.tray.specs.Stroke.{origin}
use Rattle.tray.specs.Machine.{marked, mark_after, put_says, put_after}
use Rattle.tray.specs.History.{Pen, down, up, at_pen, put, lift, mark, History, ◌▸◌}
use Rattle.page.specs.declared.kinds.Point.{Point as Dot}
use Rattle.page.specs.declared.kinds.Totals.{Totals}
use Rattle.page.specs.Strokes.{Stroke}
use Rattle.total.specs.declared.total.Total.{Ghosts}
use Rattle.total.specs.Laws.{Laws}
use Rattle.total.specs.Whole.{sum_kind, worst_kind, both_kind}
use Rattle.total.specs.SumLaws.{sum_laws}
use Rattle.total.specs.WorstLaws.{worst_laws}
use Rattle.total.specs.BothLaws.{both_laws}
use Rattle.reducer.specs.Runs.{Run}
use Rattle.reducer.specs.Law.{Right}
use Rattle.reducer.proofs.Rights.{right}
use Rattle.reducer.proofs.Runs.{steps_go_on, run_reduce, law}
use Rattle.job.specs.Figures.{sum_figures, worst_figures, both_figures}
use Rattle.job.specs.Answer.{plain_of, point_of, put_on, drawn_with, drawing, layered, own, kept_by, answer_of, if_drawn}
use Rattle.job.specs.Calls.{puts, corner_call, corners_from, calls_of, asked, ReducedBy, KeepsTheLaw}
use Rattle.job.proofs.Codes.{by_1, by_2, by_rest}
use Rattle.job.proofs.Puts.{err_ok, stays_refused, drawn_plain}
use Rattle.job.proofs.Markings.{one_mark}
use Rattle.job.proofs.Drawings.{few_drawn}
use Rattle.job.proofs.Layereds.{layered_within}
use Rattle.job.proofs.Reduces.{call, said_by_call}

along : (h k : History) (pen : Pen) (ps qs : List Point) → h ≡ k → ps ≡ qs → Run h pen ps → Run k pen qs
along h k pen ps qs e f r = subst (λ v. Run v pen qs) e (subst (λ v. Run h pen v) f r)

-- THE PUTS

abbrev RunsOn : List Dot → Type 0
RunsOn ps = (acc qs : List Point) (h : History) → foldl drawn_with (Ok acc) ps ≡ Ok qs → Run h down acc → Run (h ++ puts ps) down qs

run_put : (p : Dot) (ps : List Dot) → RunsOn ps → (acc qs : List Point) (h : History) (r : Result ℕ Told) → foldl drawn_with (put_on acc p r) ps ≡ Ok qs →
    Run (h ▸ put p.x p.y p.t) down (put_after acc p.x p.y p.t) → Run (h ++ puts (p ∷ ps)) down qs
run_put p ps ih acc qs h (Ok n) e r =
    along _ _ down qs qs (append_assoc h (put p.x p.y p.t ∷ []) (puts ps)) refl
    (ih (put_after acc p.x p.y p.t) qs (h ▸ put p.x p.y p.t) e r)
run_put p ps ih acc qs h (Err t) e r = absurd (err_ok t qs _ (stays_refused t ps) e)

same_list : (qs rs : List Point) → ◌≡◌ {A = Result (List Point) Told} (Ok qs) (Ok rs) → qs ≡ rs
same_list qs rs e = cc

run_puts : (ps : List Dot) → RunsOn ps
run_puts [] acc qs h e r = along _ _ down _ _ (sym (append-nil h)) (same_list acc qs e) r
run_puts (p ∷ ps) acc qs h e r =
    run_put p ps (run_puts ps) acc qs h (put_says acc p.x p.y p.t) e (steps_go_on.goes_on (at_pen down acc) (put p.x p.y p.t) tt tt h r)

-- THE MARKS

marks : (fs : List Point) (q : Point) (rs : List Point) (i : ℕ) → length fs + 1 ≡ i → mark_after Corner (fs ++ q ∷ rs) i ≡ fs ++ marked Corner q ∷ rs
marks fs q rs i e =
    let k : ℕ = length fs in
    ap (mark_after Corner (fs ++ q ∷ rs)) (sym e)
    ∙ one_mark (fs ++ q ∷ rs) k
    ∙ ap (λ p. set (fs ++ q ∷ rs) k (marked Corner p)) (get_or_at fs q rs origin k refl)
    ∙ set_at fs q rs (marked Corner q) k refl

run_corner : (m : Mark) (i : ℕ) (p : Dot) (fs rs zs : List Point) (h k : History) → length fs + 1 ≡ i → Run h up (fs ++ plain_of p ∷ rs) →
    ((g : History) → Run g up (fs ++ marked m (plain_of p) ∷ rs) → Run (g ++ k) up zs) → Run (h ++ corner_call m i k) up zs
run_corner Plain i p fs rs zs h k e r ih = ih h r
run_corner Corner i p fs rs zs h k e r ih =
    let one = steps_go_on.goes_on (at_pen up (fs ++ plain_of p ∷ rs)) (mark i) tt tt h r in
    along _ _ up zs zs (append_assoc h (mark i ∷ []) k) refl
    (ih (h ▸ mark i) (along _ _ up _ _ refl (marks fs (plain_of p) rs i e) one))

run_corners : (ps : List Dot) (i : ℕ) (fs : List Point) (h : History) → length fs + 1 ≡ i → Run h up (fs ++ map plain_of ps) → Run (h ++ corners_from i ps) up (fs ++ map point_of ps)
run_corners [] i fs h e r = along _ _ up _ _ (sym (append-nil h)) refl r
run_corners (p ∷ ps) i fs h e r =
    let more : List Point = fs ++ point_of p ∷ [] in
    run_corner p.mark i p fs (map plain_of ps) (fs ++ map point_of (p ∷ ps)) h (corners_from (i + 1) ps) e r
    (λ g q.
    along _ _ up _ _ refl (append_assoc fs (point_of p ∷ []) (map point_of ps))
    (run_corners ps (i + 1) more g (ap (λ n. n + 1) (length_push fs (point_of p) ∙ e))
    (along _ _ up _ _ refl (sym (append_assoc fs (point_of p ∷ []) (map plain_of ps))) q)))

run_calls : (ps : List Dot) (qs : List Point) → drawing ps ≡ Ok qs → Run (calls_of ps) up (map point_of ps)
run_calls ps qs e =
    let DownRun = run_puts ps [] qs [] e steps_go_on.begins in
    let UpRun = steps_go_on.goes_on (at_pen down qs) lift tt tt (puts ps) DownRun in
    along _ _ up _ _ (append_assoc (puts ps) (lift ∷ []) (corners_from 1 ps)) refl
    (run_corners ps 1 [] (puts ps ▸ lift) refl (along _ _ up _ _ refl (drawn_plain ps qs e) UpRun))

-- THE REDUCE

module _ {A : Type 0} (g : Ghosts A) (laws : Laws g.start g.value g.join g.order) (figures : A → Totals) (s : Stroke) (qs : List Point) (e : drawing s.points ≡ Ok qs) where
  abbrev ps : List Point
  ps = map point_of s.points

  reduced_by : answer_of s.order ps ≡ kept_by g figures (layered s.order) s.order.tolerance ps → ReducedBy g figures s
  reduced_by is =
      let m = layered s.order in
      let few = few_drawn s.points qs e in
      let tol = s.order.tolerance in
      let q = call g laws figures m (layered_within s.order) ps few tol in
      let x : Right ps (asked g figures s q.left q.result) = right g m ps tol (own g) q.left laws few (layered_within s.order ps) q.result q.outcome in
      record {
        result = q.result;
        leaves = q.left;
        answers = ap (λ r. if_drawn r (answer_of s.order ps)) e ∙ is ∙ sym (said_by_call g laws figures m (layered_within s.order) ps few tol);
        law = law ps _ x;
        runs = run_reduce ps _ x (calls_of s.points) (run_calls s.points qs e);
      }

pub keeps_the_law : KeepsTheLaw
keeps_the_law s qs e = (
  λ c. reduced_by sum_kind sum_laws sum_figures s qs e (by_1 _ _ _ s.order.total c),
  λ c. reduced_by worst_kind worst_laws worst_figures s qs e (by_2 _ _ _ s.order.total c),
  λ c. reduced_by both_kind both_laws both_figures s qs e (by_rest _ _ _ s.order.total (λ d. omega arith) (λ d. omega arith)),
)
