use Rattle.std.proofs.Common.{◌-ℤ◌, ◌*ℤ◌, arith, w32, SFits}
use Rattle.std.proofs.lemmas.Int.{to_z-of_z}
use Rattle.measure.specs.Ints.{fits32}
use Rattle.measure.proofs.Products.{product_is, cross_small}
use Rattle.measure.proofs.offset.Offset.cross.Goals as goal

pub overflow_sub-result : goal.overflow_sub-result
overflow_sub-result c =
    let a = c.args.self in
    let b = c.args.other in
    rw (product_is a.dx b.dy a.narrow b.low, product_is a.dy b.dx a.low b.narrow) (fits32 _ (omega (arith, cross_small a b)))

pub returns : goal.returns
returns c =
    let a = c.args.self in
    let b = c.args.other in
    let p = product_is a.dx b.dy a.narrow b.low in
    let q = product_is a.dy b.dx a.low b.narrow in
    let f : SFits w32 (a.dx *ℤ b.dy -ℤ a.dy *ℤ b.dx) = fits32 _ (omega (arith, cross_small a b)) in
    record { value = rw (p, q) (simp to_z-of_z); small = rw (p, q) (simp to_z-of_z (cross_small a b)) }
