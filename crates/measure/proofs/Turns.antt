-- The area's sum with one more point, when it begins with the turn from the start to itself.
use Rattle.std.proofs.Common.{◌≡◌, ℕ, zero, suc, ◌+◌, ◌-◌, List, pos, ◌+ℤ◌, ◌-ℤ◌, ap, ◌∙◌, arith}
use Rattle.std.proofs.Math.IntN.{zero-*ℤ}
use Rattle.std.proofs.lemmas.Int.{ints}
use Rattle.tray.specs.declared.point.Point.{Point}
use Rattle.tray.specs.Stroke.{at, numbered}
use Rattle.measure.specs.Steps.{cross}
use Rattle.measure.specs.Area.{swept}
use Rattle.measure.specs.Swept.{swept_next}

no_turn : (o q : Point) → cross o o q ≡ pos 0
no_turn o q =
    let x : o.x -ℤ o.x ≡ pos 0 = omega (arith, ints) in
    let y : o.y -ℤ o.y ≡ pos 0 = omega (arith, ints) in
    rw (x, y, zero-*ℤ (q.y -ℤ o.y), zero-*ℤ (q.x -ℤ o.x))

module _ (ps : List Point) (i : ℕ) where
  pub swept_more : (n : ℕ) → swept ps i (i + (n + 1)) ≡ swept ps i (i + n) +ℤ cross (numbered ps i) (numbered ps (i + n)) (numbered ps (i + 1 + n))
  swept_more zero =
      let a : i + 0 ≡ i = omega arith in
      let b : i + 1 - (i + 1) ≡ 0 = omega arith in
      let d : i - (i + 1) ≡ 0 = omega arith in
      rw (a, b, d, no_turn (numbered ps i) (numbered ps (i + 1 + 0)))
  swept_more (suc n) =
      let a : i + (suc n + 1) ≡ i + suc n + 1 = omega arith in
      let b : i + suc n ≡ i + 1 + suc n - 1 = omega arith in
      ap (swept ps i) a ∙ (swept_next ps i (i + suc n) (omega arith) ∙ ap (λ (k : ℕ). swept ps i (i + suc n) +ℤ cross (numbered ps i) (numbered ps (i + suc n)) (at ps k)) b)
