-- What can be written: numbers that fit their fields.
--   Byte         a number of one byte
--   PointFits    x and y of 16 bits, t of 32
--   StrokeFits   every number of the stroke fits its field, and both codes are known
use Rattle.std.specs.Prelude.{◌≡◌, ℕ, ◌^◌, ◌<◌, true, FitsSigned}
use Rattle.std.specs.Int.{w16}
use Rattle.std.specs.List.{AllByRecursion}
use Rattle.page.specs.declared.kinds.Point.{Point}
use Rattle.page.specs.Strokes.{Stroke, codes}

abbrev pub Byte : ℕ → Type 0
Byte b = b < 256

pub record PointFits (p : Point) : Type 0 where
  pub x : FitsSigned w16 p.x
  pub y : FitsSigned w16 p.y
  pub t : p.t < 2 ^ 32

pub record StrokeFits (s : Stroke) : Type 0 where
  pub number : s.number < 2 ^ 32
  pub points : AllByRecursion PointFits s.points
  pub span : s.order.span < 2 ^ 32
  pub tolerance : s.order.tolerance < 2 ^ 64
  pub codes : codes s.order ≡ true
