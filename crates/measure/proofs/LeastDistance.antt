-- The distance error is the least that serves.
use Rattle.std.specs.Prelude.{◌≡◌, ℕ, ◌+◌, ◌-◌, ◌*◌, ◌<◌, ◌≤◌, cond, List, ℤ, pos, ◌-ℤ◌, ◌*ℤ◌, ◌≤ℤ◌, ◌<ℤ◌, int_le, unsigned_abs}
use Rattle.std.proofs.Common.{sym, subst, le_trans, mul-le-mul_right, arith}
use Rattle.std.proofs.lemmas.Int.{ints}
use Rattle.tray.specs.declared.point.Point.{Point}
use Rattle.tray.specs.Stroke.{numbered}
use Rattle.measure.specs.Steps.{square, rounded_up, cross, dot}
use Rattle.measure.specs.Distance.{off_at, distance, distance_error, LeastDistance}
use Rattle.measure.specs.Ints.{square_is}
use Rattle.measure.specs.Runs.{greatest_small}
use Rattle.measure.specs.Rounded.{rounded_least}
use Rattle.measure.specs.Answered.{answered}
use Rattle.measure.specs.Offs.{by_place, inside}
use Rattle.measure.proofs.Serves.{rounded_serves, greatest_reached}

-- ---- over the five numbers that it is made of: s = v·d, w = d·d, a and b the squares of the distances to the ends, c the cross product

abbrev off_by : ℤ → ℤ → ℤ → ℤ → ℤ → ℕ
off_by s w a b c = cond (int_le s (pos 0)) (unsigned_abs a) (cond (int_le w s) (unsigned_abs b) (rounded_up (square c) (unsigned_abs w)))

abbrev Reach : ℤ → ℤ → ℤ → ℤ → ℤ → ℕ → Type 0
Reach s w a b c e = (s ≤ℤ pos 0 → a ≤ℤ pos e) × (pos 0 <ℤ s → w ≤ℤ s → b ≤ℤ pos e) × (pos 0 <ℤ s → s <ℤ w → (c *ℤ c) ≤ℤ (pos e *ℤ w))

within_abs : (a : ℤ) (e : ℕ) → unsigned_abs a ≤ e → a ≤ℤ pos e
within_abs a e h = omega (arith, ints)

abs_within : (a : ℤ) (e : ℕ) → pos 0 ≤ℤ a → a ≤ℤ pos e → unsigned_abs a ≤ e
abs_within a e g h = omega (arith, ints)

square_up : (c : ℤ) → pos 0 ≤ℤ (c *ℤ c)
square_up c = rw (square_is c) (omega (arith, ints))

module _ (s w a b c : ℤ) (e : ℕ) where
  at_start : off_by s w a b c ≤ e → s ≤ℤ pos 0 → unsigned_abs a ≤ e
  at_start h k = grind (arith, ints)

  at_end : off_by s w a b c ≤ e → pos 0 <ℤ s → w ≤ℤ s → unsigned_abs b ≤ e
  at_end h k l = grind (arith, ints)

  at_side : off_by s w a b c ≤ e → pos 0 <ℤ s → s <ℤ w → rounded_up (square c) (unsigned_abs w) ≤ e
  at_side h k l = grind (arith, ints)

  at_width : pos 0 ≤ℤ w → w ≡ pos (unsigned_abs w)
  at_width h = omega (arith, ints)

  reach : off_by s w a b c ≤ e → Reach s w a b c e
  reach h = (
    λ k. within_abs a e (at_start h k),
    λ k l. within_abs b e (at_end h k l),
    λ k l.
        let q = at_width (omega (arith, ints)) in
        let p : 0 < unsigned_abs w = omega (arith, ints) in
        let u : square c ≤ e * unsigned_abs w = le_trans (rounded_serves (square c) (unsigned_abs w) p) (mul-le-mul_right (unsigned_abs w) (at_side h k l)) in
        subst (λ (z : ℤ). (c *ℤ c) ≤ℤ (pos e *ℤ z)) (sym q) (within_abs (c *ℤ c) (e * unsigned_abs w) u),
  )

  least : pos 0 ≤ℤ a → pos 0 ≤ℤ b → pos 0 ≤ℤ w → Reach s w a b c e → off_by s w a b c ≤ e
  least f g h r =
      by_place (int_le s (pos 0)) (int_le w s) (unsigned_abs a) (unsigned_abs b) (rounded_up (square c) (unsigned_abs w)) e
      (λ t. abs_within a e f (r.0 (omega (arith, ints))))
      (λ t u. abs_within b e g (r.1 (omega (arith, ints)) (omega (arith, ints))))
      (λ t u.
      let k : (c *ℤ c) ≤ℤ pos (e * unsigned_abs w) = subst (λ (z : ℤ). (c *ℤ c) ≤ℤ (pos e *ℤ z)) (at_width h) (r.2 (omega (arith, ints)) (omega (arith, ints))) in
      rounded_least (square c) (unsigned_abs w) e (inside s w t u) (abs_within (c *ℤ c) (e * unsigned_abs w) (square_up c) k))

-- ---- the least that serves

own : (o p : Point) → pos 0 ≤ℤ dot o p p
own o p = let x = p.x -ℤ o.x in let y = p.y -ℤ o.y in rw (square_is x, square_is y) (omega (arith, ints))

pub least_distance : (ps : List Point) (i j : ℕ) → LeastDistance ps i j (distance ps i j)
least_distance ps i j e t =
    let v = answered distance_error ps i j e t in
    let p = numbered ps i in
    let q = numbered ps j in
    record {
      serves = λ k f g. let m = numbered ps k in
          reach (dot p m q) (dot p q q) (dot p m m) (dot q m m) (cross p q m) e
          (omega (arith, v.1, greatest_reached (off_at ps i j) (i + 1) (j - (i + 1)) k (omega arith) (omega arith)));
      no_lesser = λ d r. let b = greatest_small (off_at ps i j) (i + 1) (j - (i + 1)) d
          (λ k f g. let m = numbered ps k in
          least (dot p m q) (dot p q q) (dot p m m) (dot q m m) (cross p q m) d (own p m) (own q m) (own p q) (r k (omega arith) (omega arith))) in
          omega (arith, v.1, b);
    }
