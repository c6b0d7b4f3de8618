-- What holds of each answer of a put's refusal, and of a reduce by each kind of total, holds of each stroke's answer.
use Rattle.std.proofs.Common.{◌≡◌, ℕ, ◌+◌, ◌*◌, ◌≤◌, Bool, true, false, cond, eqb, List, map, length, Ok, Err, Result, refl, subst, arith}
use Rattle.std.proofs.lemmas.List.{length-map}
use Rattle.refusal.specs.declared.Told.{Told}
use Rattle.tray.specs.declared.point.Point.{Point}
use Rattle.page.specs.declared.kinds.Order.{Order}
use Rattle.page.specs.Strokes.{Stroke, stroke_bytes}
use Rattle.page.proofs.Putting.{stroke_length}
use Rattle.total.specs.Whole.{sum_kind, worst_kind, both_kind}
use Rattle.total.specs.SumLaws.{sum_laws}
use Rattle.total.specs.WorstLaws.{worst_laws}
use Rattle.total.specs.BothLaws.{both_laws}
use Rattle.job.specs.Figures.{sum_figures, worst_figures, both_figures}
use Rattle.job.specs.Answer.{Answer, refused, point_of, drawing, layered, kept_by, answer_of, if_drawn, answer}
use Rattle.job.specs.Jobs.{record_of}
use Rattle.job.specs.Laws.{Never8Or10}
use Rattle.job.proofs.Drawings.{Stands, stands, few_drawn}
use Rattle.job.proofs.Layereds.{layered_within}
use Rattle.job.proofs.Reduces.{Roomy, Brief, kept_brief, kept_roomy}

module _ (P : Answer → Type 0) where
  either : (b : Bool) (x y : Answer) → P x → P y → P (cond b x y)
  either true x y v w = v
  either false x y v w = w

  by_kinds : (o : Order) (ps : List Point) → P (kept_by sum_kind sum_figures (layered o) o.tolerance ps) → P (kept_by worst_kind worst_figures (layered o) o.tolerance ps) →
      P (kept_by both_kind both_figures (layered o) o.tolerance ps) → P (answer_of o ps)
  by_kinds o ps a b c = either (eqb o.total 1) _ _ a (either (eqb o.total 2) _ _ b c)

  if_each : (r : Result (List Point) Told) (a : Answer) → Stands r → ((t : Told) → t.number ≤ 4 → P (refused t)) → ((qs : List Point) → r ≡ Ok qs → P a) → P (if_drawn r a)
  if_each (Ok qs) a w f h = h qs refl
  if_each (Err t) a w f h = f t w

brief_told : (n : ℕ) (t : Told) → Brief n (refused t)
brief_told n t number = omega arith

roomy_told : (t : Told) → t.number ≤ 4 → Roomy (refused t)
roomy_told t h = (λ e. omega arith, λ e. omega arith)

module _ (s : Stroke) where
  abbrev o : Order
  o = s.order

  abbrev ps : List Point
  ps = map point_of s.points

  answer_brief : Brief (length ps) (answer s)
  answer_brief = if_each (Brief (length ps)) (drawing s.points) (answer_of o ps) (stands s.points) (λ t _. brief_told (length ps) t)
      (λ qs e. let few = few_drawn s.points qs e in
      by_kinds (Brief (length ps)) o ps
      (kept_brief sum_kind sum_laws sum_figures (layered o) (layered_within o) ps few o.tolerance)
      (kept_brief worst_kind worst_laws worst_figures (layered o) (layered_within o) ps few o.tolerance)
      (kept_brief both_kind both_laws both_figures (layered o) (layered_within o) ps few o.tolerance))

  answer_roomy : Roomy (answer s)
  answer_roomy = if_each Roomy (drawing s.points) (answer_of o ps) (stands s.points) roomy_told
      (λ qs e. let few = few_drawn s.points qs e in
      by_kinds Roomy o ps
      (kept_roomy sum_kind sum_laws sum_figures (layered o) (layered_within o) ps few o.tolerance)
      (kept_roomy worst_kind worst_laws worst_figures (layered o) (layered_within o) ps few o.tolerance)
      (kept_roomy both_kind both_laws both_figures (layered o) (layered_within o) ps few o.tolerance))

  -- the record that answers a stroke is no longer than the stroke's own records
  pub no_longer : length (record_of s) ≤ length (stroke_bytes s)
  no_longer =
      let h : length (record_of s) ≤ 26 + 12 * length ps = answer_brief s.number in
      let e = length-map s.points point_of in
      let f = stroke_length s in
      omega arith

pub never_8_or_10 : Never8Or10
never_8_or_10 s t e = subst Roomy e (answer_roomy s)
