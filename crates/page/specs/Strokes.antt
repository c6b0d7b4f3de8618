-- Strokes and their bytes: start, points, order.
--   Stroke          a stroke's number, its points and its order
--   stroke_of       the stroke of a number, points and an order
--   start_bytes     the start record of a stroke number
--   mark_kind       the kind of a point's record
--   point_payload   x and y in two bytes each, two's complement, and t in four
--   point_bytes     a point's record
--   order_payload   measure and total in a byte each, span in four, tolerance in eight
--   order_bytes     an order's record
--   stroke_bytes    a stroke: start, points, order
--   page_bytes      strokes one after another
--   point_of        the point of a payload
--   order_of        the order of a payload
--   code            a code that is known: 1 to 3
--   codes           both codes of an order are known
use Rattle.std.specs.Prelude.{ℕ, Bool, ◌&&◌, List, ◌∷◌, ◌++◌, take, drop, nat_le}
use Rattle.std.specs.Int.{w16}
use Rattle.std.proofs.Common.{of_z, to_z}
use Rattle.std.specs.List.{flat_map}
use Rattle.tray.specs.declared.point.Mark.{Mark}
use Rattle.tray.specs.declared.point.Mark.TheVariants.{Plain, Corner}
use Rattle.page.specs.declared.kinds.Point.{Point}
use Rattle.page.specs.declared.kinds.Order.{Order}
use Rattle.page.specs.Little.{le, unle}
use Rattle.page.specs.Records.{record_bytes}

pub record Stroke : Type 0 where
  pub number : ℕ
  pub points : List Point
  pub order : Order

abbrev pub stroke_of : ℕ → List Point → Order → Stroke
stroke_of n ps o = record { number = n; points = ps; order = o }

abbrev pub start_bytes : ℕ → List ℕ
start_bytes n = record_bytes 1 (le 4 n)

abbrev pub mark_kind : Mark → ℕ
mark_kind Plain = 2
mark_kind Corner = 3

abbrev pub point_payload : Point → List ℕ
point_payload p = le 2 (of_z w16 p.x) ++ (le 2 (of_z w16 p.y) ++ le 4 p.t)

abbrev pub point_bytes : Point → List ℕ
point_bytes p = record_bytes (mark_kind p.mark) (point_payload p)

abbrev pub order_payload : Order → List ℕ
order_payload o = o.measure ∷ o.total ∷ (le 4 o.span ++ le 8 o.tolerance)

abbrev pub order_bytes : Order → List ℕ
order_bytes o = record_bytes 4 (order_payload o)

abbrev pub stroke_bytes : Stroke → List ℕ
stroke_bytes s = start_bytes s.number ++ (flat_map point_bytes s.points ++ order_bytes s.order)

abbrev pub page_bytes : List Stroke → List ℕ
page_bytes ss = flat_map stroke_bytes ss

abbrev pub point_of : Mark → List ℕ → Point
point_of m p = record {
  x = to_z w16 (unle (take 2 p));
  y = to_z w16 (unle (take 2 (drop 2 p)));
  t = unle (drop 4 p);
  mark = m;
}

abbrev pub order_of : List ℕ → Order
order_of p = record {
  measure = unle (take 1 p);
  total = unle (take 1 (drop 1 p));
  span = unle (take 4 (drop 2 p));
  tolerance = unle (drop 6 p);
}

abbrev pub code : ℕ → Bool
code n = nat_le 1 n && nat_le n 3

abbrev pub codes : Order → Bool
codes o = code o.measure && code o.total
