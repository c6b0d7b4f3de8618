-- What a history of calls draws, from a new tray on, in the words of one who uses a tray.
--   Drawn h pen ps   the history h leaves this pen and these points
--   Permits          which calls each pen permits
--   DrawsExactly     the machine draws what this relation says, and nothing else
--   StaysLawful      after every history the points are a stroke within the four limits
--   TakesTheLawful   a put is answered exactly where its point leaves the stroke within the limits
use Rattle.std.specs.Prelude.{◌≡◌, ℕ, ◌+◌, ◌<◌, true, List, [], ◌∷◌, ◌++◌, length, ℤ, is_ok}
use Rattle.tray.specs.declared.point.Point.{Point}
use Rattle.tray.specs.declared.point.Mark.TheVariants.{Plain, Corner}
use Rattle.tray.specs.Stroke.{Lawful}
use Rattle.tray.specs.Machine.{plain, marked, put_says}
use Rattle.tray.specs.Reductions.{Reduction}
use Rattle.tray.specs.History.{State, Pen, down, up, Call, put, take_back, lift, mark, unmark, clear, reduce, History, ◌▸◌, new, step, run}

pub data Drawn : History → Pen → List Point → Type 0 where
  -- a new tray is bare, with the pen down
  fresh : Drawn [] down []
  -- a put adds its point, plain, where the stroke stays within the limits, and is refused elsewhere
  added : {h : History} {ps : List Point} (x y : ℤ) (t : ℕ) → Drawn h down ps →
      Lawful (ps ++ plain x y t ∷ []) → Drawn (h ▸ put x y t) down (ps ++ plain x y t ∷ [])
  kept_out : {h : History} {ps : List Point} (x y : ℤ) (t : ℕ) → Drawn h down ps →
      (Lawful (ps ++ plain x y t ∷ []) → ⊥) → Drawn (h ▸ put x y t) down ps
  -- take back removes the last point, and is refused where there is none
  taken_back : {h : History} (ps : List Point) (p : Point) → Drawn h down (ps ++ p ∷ []) → Drawn (h ▸ take_back) down ps
  none_back : {h : History} → Drawn h down [] → Drawn (h ▸ take_back) down []
  -- lift raises the pen
  lifted : {h : History} {ps : List Point} → Drawn h down ps → Drawn (h ▸ lift) up ps
  -- mark and unmark change the mark of the point with the number i, and are refused where there is none
  cornered : {h : History} (ps : List Point) (p : Point) (qs : List Point) (i : ℕ) → Drawn h up (ps ++ p ∷ qs) → length ps + 1 ≡ i →
      Drawn (h ▸ mark i) up (ps ++ marked Corner p ∷ qs)
  not_cornered : {h : History} {ps : List Point} (i : ℕ) → Drawn h up ps → (0 < i → length ps < i) → Drawn (h ▸ mark i) up ps
  plained : {h : History} (ps : List Point) (p : Point) (qs : List Point) (i : ℕ) → Drawn h up (ps ++ p ∷ qs) → length ps + 1 ≡ i →
      Drawn (h ▸ unmark i) up (ps ++ marked Plain p ∷ qs)
  not_plained : {h : History} {ps : List Point} (i : ℕ) → Drawn h up ps → (0 < i → length ps < i) → Drawn (h ▸ unmark i) up ps
  -- clear gives a bare tray, pen down
  cleared : {h : History} {n : Pen} {ps : List Point} → Drawn h n ps → Drawn (h ▸ clear) down []
  -- reduce changes nothing
  reduced : {h : History} {ps : List Point} (r : Reduction) → Drawn h up ps → Drawn (h ▸ reduce r) up ps

abbrev pub Permits : Pen → Call → Type 0
Permits down (put x y t) = Unit {0}
Permits down take_back = Unit {0}
Permits down lift = Unit {0}
Permits down (mark i) = ⊥
Permits down (unmark i) = ⊥
Permits down clear = Unit {0}
Permits down (reduce r) = ⊥
Permits up (put x y t) = ⊥
Permits up take_back = ⊥
Permits up lift = ⊥
Permits up (mark i) = Unit {0}
Permits up (unmark i) = Unit {0}
Permits up clear = Unit {0}
Permits up (reduce r) = Unit {0}

-- each call of the history is permitted where it comes
abbrev pub Permitted : State → History → Type 0
Permitted s [] = Unit {0}
Permitted s (c ∷ cs) = Permits s.pen c × Permitted (step s c) cs

abbrev pub DrawsExactly : Type 0
DrawsExactly = ((h : History) → Permitted new h → Drawn h (run new h).pen (run new h).points)
    × ((h : History) (n : Pen) (ps : List Point) → Drawn h n ps → ((run new h).pen ≡ n) × ((run new h).points ≡ ps))

abbrev pub StaysLawful : Type 0
StaysLawful = (h : History) → Lawful (run new h).points

-- over a lawful stroke a put is answered exactly where the stroke with the new point at its end is lawful
abbrev pub TakesTheLawful : Type 0
TakesTheLawful = (ps : List Point) (vx vy : ℤ) (vt : ℕ) → Lawful ps →
    (is_ok (put_says ps vx vy vt) ≡ true → Lawful (ps ++ plain vx vy vt ∷ []))
    × (Lawful (ps ++ plain vx vy vt ∷ []) → is_ok (put_says ps vx vy vt) ≡ true)
