-- The calls that a job makes on a tray for one stroke, and what is right to say of its answer.
--   put_of, puts    the put of a point, and of each point in turn
--   corner_call     a mark for a corner, by its number
--   corners_from    a mark for each corner in turn, where the first point has this number
--   calls_of        the points put, the pen lifted, the corners marked
--   ReducedBy g s   the answer of the stroke s is what a reduce with the kind of total g told, made after these calls:
--                   it is right about the stroke, agrees with every reduce that is right, and the calls with it are a run
--   KeepsTheLaw     so it is with the kind of total that the order names, wherever no put is refused
use Rattle.std.specs.Prelude.{◌≡◌, ℕ, ◌+◌, List, [], ◌∷◌, ◌++◌, map, Ok, Result}
use Rattle.tray.specs.declared.point.Point.{Point}
use Rattle.tray.specs.declared.point.Mark.{Mark}
use Rattle.tray.specs.declared.point.Mark.TheVariants.{Plain, Corner}
use Rattle.tray.specs.declared.causes.Refusal.{Refusal}
use Rattle.tray.specs.Refusals.{tells}
use Rattle.tray.specs.Reductions.{Reduction}
use Rattle.tray.specs.History.{up, Call, put, lift, mark, reduce, History, ◌▸◌}
use Rattle.page.specs.declared.kinds.Point.{Point as Dot}
use Rattle.page.specs.declared.kinds.Totals.{Totals}
use Rattle.page.specs.Strokes.{Stroke}
use Rattle.total.specs.declared.total.Total.{Ghosts}
use Rattle.total.specs.Whole.{sum_kind, worst_kind, both_kind}
use Rattle.reducer.specs.declared.answer.Answer.{Answer as Reply}
use Rattle.reducer.specs.Lent.{Lent}
use Rattle.reducer.specs.Reduced.{done}
use Rattle.reducer.specs.Recorded.{reduction}
use Rattle.reducer.specs.Law.{Law}
use Rattle.reducer.specs.Runs.{Run}
use Rattle.job.specs.Figures.{sum_figures, worst_figures, both_figures}
use Rattle.job.specs.Answer.{point_of, drawing, layered, own, replied, answer}

abbrev pub put_of : Dot → Call
put_of p = put p.x p.y p.t

abbrev pub puts : List Dot → History
puts ps = map put_of ps

abbrev pub corner_call : Mark → ℕ → History → History
corner_call Plain i h = h
corner_call Corner i h = mark i ∷ h

abbrev pub corners_from : ℕ → List Dot → History
corners_from i [] = []
corners_from i (p ∷ ps) = corner_call p.mark i (corners_from (i + 1) ps)

abbrev pub calls_of : List Dot → History
calls_of ps = puts ps ++ lift ∷ corners_from 1 ps

module _ {A : Type 0} (g : Ghosts A) (figures : A → Totals) (s : Stroke) where
  -- the job's reduce, recorded with what it told and left
  abbrev pub asked : Lent A → Result (Reply A) Refusal → Reduction
  asked a x = reduction g (layered s.order) s.order.tolerance (own g) a x

  pub record ReducedBy : Type 0 where
    pub result : Result (Reply A) Refusal
    pub leaves : Lent A
    pub answers : answer s ≡ replied figures (done (tells result) leaves)
    pub law : Law (map point_of s.points) (asked leaves result)
    pub runs : Run (calls_of s.points ▸ reduce (asked leaves result)) up (map point_of s.points)

abbrev pub KeepsTheLaw : Type 0
KeepsTheLaw = (s : Stroke) (qs : List Point) → drawing s.points ≡ Ok qs →
    (s.order.total ≡ 1 → ReducedBy sum_kind sum_figures s)
    × (s.order.total ≡ 2 → ReducedBy worst_kind worst_figures s)
    × (s.order.total ≡ 3 → ReducedBy both_kind both_figures s)
