-- What one stroke of a page is answered, from its own records alone.
--   plain_of, point_of   a point of the page as it is put, and with its mark
--   drawing              the points that the puts make, or what the first refused put tells
--   measure_of           the measure that a code names
--   layered              Corners over Span over the measure that an order names
--   Answer               the two total fields and the kept numbers, or what the refusal tells
--   own                  the job's own tables and list: 512 entries each
--   replied              the answer of a reduce
--   kept_by              the answer by one kind of total
--   answer_of            the answer by the kind of total that an order names
--   answer               the answer of a stroke
use Rattle.std.specs.Prelude.{ℕ, cond, List, [], map, length, take, replicate, Ok, Err, Result, ◌==◌}
use mathlib.Core.List.{foldl}
use Rattle.refusal.specs.declared.Told.{Told}
use Rattle.tray.specs.declared.point.Point.{Point}
use Rattle.tray.specs.declared.causes.Refusal.{Refusal}
use Rattle.tray.specs.Refusals.{told}
use Rattle.tray.specs.Machine.{plain, marked, put_says, put_after}
use Rattle.tray.specs.Reductions.{Meaning}
use Rattle.page.specs.declared.kinds.Point.{Point as Dot}
use Rattle.page.specs.declared.kinds.Order.{Order}
use Rattle.page.specs.declared.kinds.Totals.{Totals}
use Rattle.page.specs.Strokes.{Stroke}
use Rattle.total.specs.declared.total.Total.{Ghosts}
use Rattle.total.specs.Whole.{sum_kind, worst_kind, both_kind}
use Rattle.measure.specs.Synchronous.{synchronous}
use Rattle.measure.specs.Distance.{distance}
use Rattle.measure.specs.Area.{area}
use Rattle.measure.specs.Layers.{barring, cornered, overlong}
use Rattle.reducer.specs.Chains.{task}
use Rattle.reducer.specs.Lent.{Lent, lent}
use Rattle.reducer.specs.Reduced.{Done, reduced}
use Rattle.job.specs.declared.kept.Kept.{Kept}
use Rattle.job.specs.Figures.{sum_figures, worst_figures, both_figures}

abbrev pub plain_of : Dot → Point
plain_of p = plain p.x p.y p.t

abbrev pub point_of : Dot → Point
point_of p = marked p.mark (plain_of p)

-- one put more, unless one was refused before
abbrev pub put_on : List Point → Dot → Result ℕ Told → Result (List Point) Told
put_on qs p (Ok n) = Ok (put_after qs p.x p.y p.t)
put_on qs p (Err t) = Err t

abbrev pub drawn_with : Result (List Point) Told → Dot → Result (List Point) Told
drawn_with (Ok qs) p = put_on qs p (put_says qs p.x p.y p.t)
drawn_with (Err t) p = Err t

abbrev pub drawing : List Dot → Result (List Point) Told
drawing ps = foldl drawn_with (Ok []) ps

abbrev pub measure_of : ℕ → Meaning
measure_of c = cond (c == 1) synchronous (cond (c == 2) distance area)

abbrev pub over_span : ℕ → Meaning → Meaning
over_span s m ps i j = barring (cornered ps i j) (barring (overlong s ps i j) (m ps i j))

abbrev pub layered : Order → Meaning
layered o = over_span o.span (measure_of o.measure)

pub data Answer : Type 0 where
  kept : Totals → List ℕ → Answer
  refused : Told → Answer

abbrev pub own : {A : Type 0} → Ghosts A → Lent A
own g = lent (replicate 512 0) (replicate 512 0) (replicate 512 g.start) (replicate 512 0)

abbrev pub replied : {A : Type 0} → (A → Totals) → Done A → Answer
replied figures d = elim d.says [ Ok x ↦ kept (figures x.total) (take x.count d.leaves.list) | Err t ↦ refused t ]

-- what the code's answer stands for
abbrev pub spoken : Result Kept Refusal → Answer
spoken (Ok k) = kept k.totals (take k.count k.list)
spoken (Err e) = refused (told e)

abbrev pub kept_by : {A : Type 0} → Ghosts A → (A → Totals) → Meaning → ℕ → List Point → Answer
kept_by g figures m tolerance ps = replied figures (reduced (task g (m ps) tolerance) (length ps) (own g))

abbrev pub answer_of : Order → List Point → Answer
answer_of o ps =
    cond (o.total == 1) (kept_by sum_kind sum_figures (layered o) o.tolerance ps)
    (cond (o.total == 2) (kept_by worst_kind worst_figures (layered o) o.tolerance ps)
    (kept_by both_kind both_figures (layered o) o.tolerance ps))

abbrev pub if_drawn : Result (List Point) Told → Answer → Answer
if_drawn (Ok qs) a = a
if_drawn (Err t) a = refused t

-- the first refused put decides; else the points with their marks are reduced
abbrev pub answer : Stroke → Answer
answer s = if_drawn (drawing s.points) (answer_of s.order (map point_of s.points))
