-- Something that meets the premises of each law.
--   hook_dots     the points of the hook, as a page has them
--   hook_stroke   the hook on a page, with an order by the synchronous measure, the sum and this tolerance
--   KeepsPoints   the reply is an answer of so many points
--   TwoReduces    a history with two answered reduces of the hook, the second with a wider tolerance, that is a run
--   PremisesMet   a lawful stroke, a history that the pen permits, points that are all put, a stroke that fits a page, and those reduces
use Rattle.std.specs.Prelude.{◌≡◌, ℕ, ◌<◌, List, [], ◌∷◌, ℤ, pos, Ok}
use Rattle.tray.specs.declared.point.Mark.TheVariants.{Plain}
use Rattle.tray.specs.Stroke.{Lawful}
use Rattle.tray.specs.Reductions.{Reduction, Reply, answered, refused}
use Rattle.tray.specs.History.{up, History, new}
use Rattle.tray.specs.Drawn.{Permitted}
use Rattle.page.specs.declared.kinds.Point.{Point as Dot}
use Rattle.page.specs.Strokes.{Stroke, stroke_of}
use Rattle.page.specs.Fits.{StrokeFits}
use Rattle.measure.specs.Worked.{hook}
use Rattle.reducer.specs.Runs.{Met, Run}
use Rattle.job.specs.Answer.{drawing}
use Rattle.job.specs.Calls.{calls_of}

abbrev pub on_page : ℤ → ℤ → ℕ → Dot
on_page vx vy vt = record { x = vx; y = vy; t = vt; mark = Plain }

abbrev pub hook_dots : List Dot
hook_dots = on_page (pos 0) (pos 0) 0 ∷ on_page (pos 1) (pos 4) 1 ∷ on_page (pos 2) (pos 4) 2 ∷ on_page (pos 3) (pos 3) 3 ∷ on_page (pos 4) (pos 0) 4 ∷ []

abbrev pub hook_stroke : ℕ → Stroke
hook_stroke tolerance = stroke_of 7 hook_dots (record { measure = 1; total = 1; span = 8191; tolerance = tolerance })

abbrev pub KeepsPoints : ℕ → Reply → Type 0
KeepsPoints n (answered ks count has_total) = count ≡ n
KeepsPoints n (refused t) = ⊥

pub record TwoReduces : Type 0 where
  pub history : History
  pub narrow : Reduction
  pub wide : Reduction
  pub run : Run history up hook
  pub narrow_met : Met history hook narrow
  pub wide_met : Met history hook wide
  pub one_measure : (i j : ℕ) → narrow.meaning hook i j ≡ wide.meaning hook i j
  pub wider : narrow.tolerance < wide.tolerance
  pub keeps_three : KeepsPoints 3 narrow.reply
  pub keeps_two : KeepsPoints 2 wide.reply

pub record PremisesMet : Type 0 where
  pub lawful : Lawful hook
  pub permitted : Permitted new (calls_of hook_dots)
  pub all_put : drawing hook_dots ≡ Ok hook
  pub fits : StrokeFits (hook_stroke 5)
  pub reduces : TwoReduces
