-- Products of the steps from one point to others.
--   square z         z · z
--   rounded_up n d   n / d, rounded up
--   cross o p q      the step from o to p, cross the step from o to q
--   dot o p q        the step from o to p, dot the step from o to q
use Rattle.std.specs.Prelude.{ℕ, ◌+◌, ◌/◌, ◌%◌, min, ℤ, ◌+ℤ◌, ◌-ℤ◌, ◌*ℤ◌, unsigned_abs}
use Rattle.tray.specs.declared.point.Point.{Point}

abbrev pub square : ℤ → ℕ
square z = unsigned_abs (z *ℤ z)

abbrev pub rounded_up : ℕ → ℕ → ℕ
rounded_up n d = n / d + min 1 (n % d)

abbrev pub cross : Point → Point → Point → ℤ
cross o p q = (p.x -ℤ o.x) *ℤ (q.y -ℤ o.y) -ℤ (p.y -ℤ o.y) *ℤ (q.x -ℤ o.x)

abbrev pub dot : Point → Point → Point → ℤ
dot o p q = (p.x -ℤ o.x) *ℤ (q.x -ℤ o.x) +ℤ (p.y -ℤ o.y) *ℤ (q.y -ℤ o.y)
