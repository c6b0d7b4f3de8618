-- Products of ways, past the casts, and how large they are together.
use Rattle.std.proofs.Common.{◌≡◌, ◌*◌, ◌≤◌, ℤ, ◌+ℤ◌, ◌-ℤ◌, ◌*ℤ◌, nat_abs, arith, w32, SFits, to_z, of_z}
use Rattle.std.proofs.lemmas.Int.{to_z-of_z, ints}
use Rattle.measure.specs.declared.offset.Offset.{Offset}
use Rattle.measure.specs.Ints.{product_small, fits32}

module _ (a b : ℤ) (f : nat_abs a ≤ 8191) (g : nat_abs b ≤ 8191) where
  small : nat_abs (a *ℤ b) ≤ 8191 * 8191
  small = product_small a b 8191 8191 f g

  pub product_is : to_z w32 (of_z w32 (to_z w32 (of_z w32 a) *ℤ to_z w32 (of_z w32 b))) ≡ a *ℤ b
  product_is =
      let x : SFits w32 a = fits32 a (omega arith) in
      let y : SFits w32 b = fits32 b (omega arith) in
      let z : SFits w32 (a *ℤ b) = fits32 (a *ℤ b) (omega (arith, small)) in
      simp to_z-of_z

module _ (a b : Offset) where
  pub cross_small : nat_abs (a.dx *ℤ b.dy -ℤ a.dy *ℤ b.dx) ≤ 2 * (8191 * 8191)
  cross_small = omega (arith, ints, small a.dx b.dy a.narrow b.low, small a.dy b.dx a.low b.narrow)

  pub dot_small : nat_abs (a.dx *ℤ b.dx +ℤ a.dy *ℤ b.dy) ≤ 2 * (8191 * 8191)
  dot_small = omega (arith, ints, small a.dx b.dx a.narrow b.narrow, small a.dy b.dy a.low b.low)
