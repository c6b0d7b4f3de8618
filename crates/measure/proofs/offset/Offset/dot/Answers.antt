use Rattle.std.proofs.Common.{◌+ℤ◌, ◌*ℤ◌, arith, w32, SFits}
use Rattle.std.proofs.lemmas.Int.{to_z-of_z}
use Rattle.measure.specs.Ints.{fits32}
use Rattle.measure.proofs.Products.{product_is, dot_small}
use Rattle.measure.proofs.offset.Offset.dot.Goals as goal

pub overflow_add-result : goal.overflow_add-result
overflow_add-result c =
    let a = c.args.self in
    let b = c.args.other in
    rw (product_is a.dx b.dx a.narrow b.narrow, product_is a.dy b.dy a.low b.low) (fits32 _ (omega (arith, dot_small a b)))

pub returns : goal.returns
returns c =
    let a = c.args.self in
    let b = c.args.other in
    let p = product_is a.dx b.dx a.narrow b.narrow in
    let q = product_is a.dy b.dy a.low b.low in
    let f : SFits w32 (a.dx *ℤ b.dx +ℤ a.dy *ℤ b.dy) = fits32 _ (omega (arith, dot_small a b)) in
    record { value = rw (p, q) (simp to_z-of_z); small = rw (p, q) (simp to_z-of_z (dot_small a b)) }
