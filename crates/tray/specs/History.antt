-- The machine of a tray: a pen, a list of points, and the calls that are made in turn.
--   Pen, State    the pen is down or up; a tray's state is its pen and its points
--   Call          a call by its arguments alone; a reduce is recorded with what it asked and told
--   new           a new tray: bare, with the pen down
--   step          what one call makes of a state
--   run           what a row of calls makes of it
--   h ▸ c         the history h, followed by the call c
use Rattle.std.specs.Prelude.{ℕ, List, [], ◌∷◌, ◌++◌, ℤ}
use Rattle.tray.specs.declared.point.Point.{Point}
use Rattle.tray.specs.declared.point.Mark.TheVariants.{Plain, Corner}
use Rattle.tray.specs.Machine.{put_after, take_back_after, mark_after}
use Rattle.tray.specs.Reductions.{Reduction}

pub data Pen : Type 0 where
  down : Pen
  up : Pen

pub record State : Type 0 where
  pub pen : Pen
  pub points : List Point

abbrev pub at_pen : Pen → List Point → State
at_pen p ps = record { pen = p; points = ps }

abbrev pub new : State
new = at_pen down []

pub data Call : Type 0 where
  put : ℤ → ℤ → ℕ → Call
  take_back : Call
  lift : Call
  mark : ℕ → Call
  unmark : ℕ → Call
  clear : Call
  reduce : Reduction → Call

abbrev pub History : Type 0
History = List Call

infixl 40 ◌▸◌
abbrev pub ◌▸◌ : History → Call → History
h ▸ c = h ++ c ∷ []

-- a call that the pen does not permit never comes, and here changes nothing
abbrev pub step_at : Pen → List Point → Call → State
step_at down ps (put x y t) = at_pen down (put_after ps x y t)
step_at down ps take_back = at_pen down (take_back_after ps)
step_at down ps lift = at_pen up ps
step_at down ps (mark i) = at_pen down ps
step_at down ps (unmark i) = at_pen down ps
step_at down ps clear = new
step_at down ps (reduce r) = at_pen down ps
step_at up ps (put x y t) = at_pen up ps
step_at up ps take_back = at_pen up ps
step_at up ps lift = at_pen up ps
step_at up ps (mark i) = at_pen up (mark_after Corner ps i)
step_at up ps (unmark i) = at_pen up (mark_after Plain ps i)
step_at up ps clear = new
step_at up ps (reduce r) = at_pen up ps

abbrev pub step : State → Call → State
step s c = step_at s.pen s.points c

abbrev pub run : State → History → State
run s [] = s
run s (c ∷ cs) = run (step s c) cs
