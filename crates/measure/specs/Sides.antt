-- Where a point stands beside a segment, so that a chord takes one division and not one for each point.
--   sided p q k   past an end, with the square of the distance to it, or along the segment, with the size of the cross product
--   risen c d     the square of the distance that a cross product of size c has from a segment with the square d, rounded up
use Rattle.std.specs.Prelude.{ℕ, ◌*◌, cond, pos, int_le, unsigned_abs}
use Rattle.tray.specs.declared.point.Point.{Point}
use Rattle.measure.specs.Steps.{cross, dot, rounded_up}
use Rattle.measure.specs.declared.distance.Side.{Side}
use Rattle.measure.specs.declared.distance.Side.TheVariants.{Past, Along}

abbrev pub sided : Point → Point → Point → Side
sided p q k =
    cond (int_le (dot p k q) (pos 0)) (Past (unsigned_abs (dot p k k)))
    (cond (int_le (dot p q q) (dot p k q)) (Past (unsigned_abs (dot q k k))) (Along (unsigned_abs (cross p q k))))

abbrev pub risen : ℕ → ℕ → ℕ
risen c d = rounded_up (c * c) d
