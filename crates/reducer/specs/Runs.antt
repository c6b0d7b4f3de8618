-- Runs: histories of a tray from new on, with what each reduce told, that keep the law.
--   Met        a reduce of a history, with the stroke that the calls before it made
--   EachRight  each reduce of a history is right about its stroke
--   TwoAgree   of two reduces, one in each history, over one stroke with one measure, the one with at least the other's
--              tolerance, whatever its kind of total, has each lawful chain of the other and keeps no more points
--   Run        the history leaves this pen and this stroke, and keeps the law: alone, and beside each other history that is right
--   GoesOn     one call more makes a longer run of each run
--   StepsGoOn  so does each call of a tray that is no reduce, by the machine's step
use Rattle.std.specs.Prelude.{◌≡◌, ℕ, ◌≤◌, List, [], ◌∷◌, ◌++◌}
use Rattle.tray.specs.declared.point.Point.{Point}
use Rattle.tray.specs.Reductions.{Reduction}
use Rattle.tray.specs.History.{Pen, down, up, State, Call, put, take_back, lift, mark, unmark, clear, reduce, History, ◌▸◌, step}
use Rattle.tray.specs.Drawn.{Drawn, Permits}
use Rattle.reducer.specs.Law.{Right, Wider}

pub record Met (h : History) (stroke : List Point) (r : Reduction) : Type 0 where
  pub before : History
  pub after : History
  pub whole : h ≡ before ++ (reduce r ∷ after)
  pub drawn : Drawn before up stroke

abbrev pub EachRight : History → Type 0
EachRight h = (stroke : List Point) (r : Reduction) → Met h stroke r → Right stroke r

abbrev pub TwoAgree : History → History → Type 0
TwoAgree h g = (stroke : List Point) (r w : Reduction) → Met h stroke r → Met g stroke w →
    ((i j : ℕ) → r.meaning stroke i j ≡ w.meaning stroke i j) → r.tolerance ≤ w.tolerance → Wider stroke r w

pub record Run (h : History) (pen : Pen) (stroke : List Point) : Type 0 where
  pub drawn : Drawn h pen stroke
  pub each : EachRight h
  pub alone : TwoAgree h h
  pub beside : (g : History) → EachRight g → TwoAgree h g × TwoAgree g h

abbrev pub GoesOn : State → Call → State → Type 0
GoesOn s c s' = (h : History) → Run h s.pen s.points → Run (h ▸ c) s'.pen s'.points

abbrev pub NoReduce : Call → Type 0
NoReduce (put x y t) = Unit {0}
NoReduce take_back = Unit {0}
NoReduce lift = Unit {0}
NoReduce (mark i) = Unit {0}
NoReduce (unmark i) = Unit {0}
NoReduce clear = Unit {0}
NoReduce (reduce r) = ⊥

pub record StepsGoOn : Type 0 where
  pub begins : Run [] down []
  pub goes_on : (s : State) (c : Call) → NoReduce c → Permits s.pen c → GoesOn s c (step s c)
