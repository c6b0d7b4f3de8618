-- How large the distance from a point to a segment is.
use Rattle.std.specs.Prelude.{◌≡◌, ℕ, ◌+◌, ◌-◌, ◌*◌, ◌<◌, ◌≤◌, Bool, true, false, cond, List, ℤ, pos, ◌+ℤ◌, ◌-ℤ◌, ◌*ℤ◌, int_le, unsigned_abs, refl}
use Rattle.std.proofs.Common.{⊎_elim, le_of_lt, arith}
use Rattle.std.proofs.lemmas.Int.{ints}
use Rattle.std.proofs.lemmas.Bool.{cases_lt}
use Rattle.tray.specs.declared.point.Point.{Point}
use Rattle.tray.specs.Stroke.{numbered, Lawful}
use Rattle.total.specs.Laws.{limit}
use Rattle.measure.specs.Chords.{On, Chord}
use Rattle.measure.specs.Steps.{square, rounded_up, cross, dot}
use Rattle.measure.specs.Distance.{off, off_at, distance_error}
use Rattle.measure.specs.Ints.{product_small, square_small, square_is}
use Rattle.measure.specs.Runs.{greatest_small}
use Rattle.measure.specs.Rounded.{rounded_least}
use Rattle.measure.specs.Points.{on, step_small}

-- a bound, by where the point stands
pub by_place : (b d : Bool) (x y z m : ℕ) → (b ≡ true → x ≤ m) → (b ≡ false → d ≡ true → y ≤ m) → (b ≡ false → d ≡ false → z ≤ m) → cond b x (cond d y z) ≤ m
by_place true d x y z m f g h = f refl
by_place false true x y z m f g h = g refl refl
by_place false false x y z m f g h = h refl refl

pub inside : (s w : ℤ) → int_le s (pos 0) ≡ false → int_le w s ≡ false → 0 < unsigned_abs w
inside s w e f = omega (arith, ints)

-- ---- how large it is

-- d·d
whole_is : (a b : ℤ) → unsigned_abs (a *ℤ a +ℤ b *ℤ b) ≡ unsigned_abs a * unsigned_abs a + unsigned_abs b * unsigned_abs b
whole_is a b = rw (square_is a, square_is b)

apart : (x e : ℕ) → (x + (x + e)) * (x + (x + e)) ≤ 2 * (x * x + (x + e) * (x + e))
apart x e = omega arith

ordered : (x y : ℕ) → x ≤ y → (x + y) * (x + y) ≤ 2 * (x * x + y * y)
ordered x y h =
    let e : x + (y - x) ≡ y = omega arith in
    rw e at (apart x (y - x))

two_squares : (x y : ℕ) → (x + y) * (x + y) ≤ 2 * (x * x + y * y)
two_squares x y = ⊎_elim (λ h. ordered x y (le_of_lt h)) (λ h. omega (arith, ordered y x h)) (cases_lt x y)

dot_small : (o p q : Point) → On o → On p → On q → unsigned_abs (dot o p q) ≤ 2 * (8191 * 8191)
dot_small o p q f g h =
    let a = product_small (p.x -ℤ o.x) (q.x -ℤ o.x) 8191 8191 (step_small _ _ f.across g.across) (step_small _ _ f.across h.across) in
    let b = product_small (p.y -ℤ o.y) (q.y -ℤ o.y) 8191 8191 (step_small _ _ f.upright g.upright) (step_small _ _ f.upright h.upright) in
    omega (arith, ints, a, b)

module _ (p q k : Point) (f : On p) (g : On q) (h : On k) where
  -- (d cross v)² is at most 2 · 8191² · (d·d)
  cross_by_whole : square (cross p q k) ≤ 134184962 * unsigned_abs (dot p q q)
  cross_by_whole =
      let dx = q.x -ℤ p.x in
      let dy = q.y -ℤ p.y in
      let a = product_small dx (k.y -ℤ p.y) (unsigned_abs dx) 8191 (omega arith) (step_small _ _ f.upright h.upright) in
      let b = product_small dy (k.x -ℤ p.x) (unsigned_abs dy) 8191 (omega arith) (step_small _ _ f.across h.across) in
      let s : unsigned_abs (cross p q k) ≤ 8191 * (unsigned_abs dx + unsigned_abs dy) = omega (arith, ints, a, b) in
      let t = square_small (cross p q k) (8191 * (unsigned_abs dx + unsigned_abs dy)) s in
      omega (arith, t, two_squares (unsigned_abs dx) (unsigned_abs dy), whole_is dx dy)

  pub off_small : off p q k ≤ 134184962
  off_small =
      by_place (int_le (dot p k q) (pos 0)) (int_le (dot p q q) (dot p k q)) (unsigned_abs (dot p k k)) (unsigned_abs (dot q k k)) (rounded_up (square (cross p q k)) (unsigned_abs (dot p q q))) 134184962
      (λ t. dot_small p k k f h h) (λ t u. dot_small q k k g h h)
      (λ t u. rounded_least (square (cross p q k)) (unsigned_abs (dot p q q)) 134184962 (inside (dot p k q) (dot p q q) t u) cross_by_whole)

pub distance_limit : (ps : List Point) (i j : ℕ) → Lawful ps → Chord ps i j → distance_error ps i j ≤ limit
distance_limit ps i j l c =
    greatest_small (off_at ps i j) (i + 1) (j - (i + 1)) limit
    (λ k p q. omega (arith, off_small (numbered ps i) (numbered ps j) (numbered ps k) (on ps i l (omega arith) (omega arith)) (on ps j l (omega arith) (omega arith)) (on ps k l (omega arith) (omega arith))))
