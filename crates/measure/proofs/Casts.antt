-- Numbers of 32 bits, past their casts.
use Rattle.std.specs.Prelude.{◌≡◌, ℕ, ◌*◌, ◌^◌, ◌<◌, ◌≤◌, ℤ, FitsSigned, unsigned_abs}
use Rattle.std.proofs.Common.{ap, ◌∙◌, arith, to_z, of_z}
use Rattle.std.proofs.lemmas.Int.{to_z-of_z, ints}
use Rattle.std.specs.Int.{w32, w64}
use Rattle.measure.specs.Chords.{Placed}
use Rattle.measure.specs.Synchronous.{lag}
use Rattle.measure.specs.Ints.{fits32, fits64}
use Rattle.measure.specs.Lags.{lag_small}

-- the size of r that is d
pub stripped : (r d : ℤ) (n : ℕ) → unsigned_abs r ≤ 2 * (8191 * 8191) → n ≡ unsigned_abs (to_z w32 (of_z w32 r)) → r ≡ d → n ≡ unsigned_abs d
stripped r d n h e f =
    let g : FitsSigned w32 r = fits32 r (omega (arith, h)) in
    let x : n ≡ unsigned_abs r = simp to_z-of_z at e in
    cc

-- a number of 32 bits, widened
pub widened : (r : ℤ) → unsigned_abs r < 2 ^ 31 → to_z w64 (of_z w64 (to_z w32 (of_z w32 r))) ≡ r
widened r h =
    let f : FitsSigned w32 r = fits32 r h in
    let g : FitsSigned w64 r = fits64 r (omega arith) in
    simp to_z-of_z

placed_cast : (z : ℤ) → Placed z → to_z w32 (of_z w32 z) ≡ z
placed_cast z h = to_z-of_z w32 z (fits32 z (omega (arith, ints)))

-- a lag r, widened
pub wide_lag : (r f a t : ℤ) (p w : ℕ) → Placed f → Placed a → Placed t → p ≤ w → w ≤ 8191 → r ≡ lag (to_z w32 (of_z w32 f)) (to_z w32 (of_z w32 a)) (to_z w32 (of_z w32 t)) p w → to_z w64 (of_z w64 (to_z w32 (of_z w32 r))) ≡ lag f a t p w
wide_lag r f a t p w h i j k l e =
    let x = placed_cast f h in
    let y = placed_cast a i in
    let z = placed_cast t j in
    let u : r ≡ lag f a t p w = cc in
    widened r (omega (arith, ap unsigned_abs u, lag_small f a t p w h i j k)) ∙ u
