use Rattle.std.proofs.Common.{◌≡◌, true, false, pos, arith, w32, SFits}
use lib.Signed.{le_z}
use Rattle.std.proofs.lemmas.Int.{to_z-of_z}
use Rattle.measure.specs.Steps.{cross, dot}
use Rattle.measure.specs.Ints.{fits32}
use Rattle.measure.proofs.Casts.{stripped}
use Rattle.measure.proofs.distance.side_of.Goals as goal

pub returns-then-s-dot : goal.returns-then-s-dot
returns-then-s-dot c =
    let p = c.args.p in
    let q = c.args.q in
    let k = c.args.k in
    let s : c.dot-s.result ≡ dot p k q = cc in
    let w : c.dot-else-s-le0.result ≡ dot p q q = cc in
    let a : c.dot-then-s-dot.result ≡ dot q k k = cc in
    let f : SFits w32 c.dot-s.result = fits32 _ (omega (arith, c.dot-s.ensures.small)) in
    let g : SFits w32 c.dot-else-s-le0.result = fits32 _ (omega (arith, c.dot-else-s-le0.ensures.small)) in
    let t : le_z (dot p k q) (pos 0) ≡ false = rw s at (simp to_z-of_z at c.if-s-le0.false) in
    let u : le_z (dot p q q) (dot p k q) ≡ true = rw (s, w) at (simp to_z-of_z at c.if-s-dot.true) in
    let n = stripped _ _ _ c.dot-then-s-dot.ensures.small c.unsigned_abs-then-s-dot.ensures.value a in
    rw (t, u, n)

pub returns-else-s-dot : goal.returns-else-s-dot
returns-else-s-dot c =
    let p = c.args.p in
    let q = c.args.q in
    let k = c.args.k in
    let s : c.dot-s.result ≡ dot p k q = cc in
    let w : c.dot-else-s-le0.result ≡ dot p q q = cc in
    let a : c.cross.result ≡ cross p q k = cc in
    let f : SFits w32 c.dot-s.result = fits32 _ (omega (arith, c.dot-s.ensures.small)) in
    let g : SFits w32 c.dot-else-s-le0.result = fits32 _ (omega (arith, c.dot-else-s-le0.ensures.small)) in
    let t : le_z (dot p k q) (pos 0) ≡ false = rw s at (simp to_z-of_z at c.if-s-le0.false) in
    let u : le_z (dot p q q) (dot p k q) ≡ false = rw (s, w) at (simp to_z-of_z at c.if-s-dot.false) in
    let n = stripped _ _ _ c.cross.ensures.small c.unsigned_abs-else-s-dot.ensures.value a in
    rw (t, u, n)
