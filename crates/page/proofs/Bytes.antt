-- Laws of little-endian bytes.
use Rattle.std.proofs.Common.{◌≡◌, ℕ, zero, suc, ◌+◌, ◌*◌, ◌/◌, ◌%◌, ◌^◌, ◌<◌, List, [], ◌∷◌, length, refl, div-lt_iff_lt-mul, pow-suc, arith, rules}
use Rattle.std.specs.Int.{w64, to_le_bytes}
use Rattle.std.specs.List.{AllByRecursion}
use Rattle.page.specs.Little.{le, unle}
use Rattle.page.specs.Fits.{Byte}

pub unle_le : (k n : ℕ) → n < 256 ^ k → unle (le k n) ≡ n
unle_le zero n h = omega arith
unle_le (suc k) n h =
    let small : n < 256 ^ k * 256 = rw pow-suc at h in
    let below : n / 256 < 256 ^ k = (div-lt_iff_lt-mul {k = 256} (omega arith)).1 small in
    let ih = unle_le k (n / 256) below in
    omega arith

pub le_unle : (bs : List ℕ) → AllByRecursion Byte bs → le (length bs) (unle bs) ≡ bs
le_unle [] h = refl
le_unle (b ∷ bs) h =
    let low : (b + unle bs * 256) % 256 ≡ b = omega (arith, h.0) in
    let high : (b + unle bs * 256) / 256 ≡ unle bs = omega (arith, h.0) in
    let ih = le_unle bs h.1 in
    rw (low, high, ih)

pub le_unle_at : (k : ℕ) (bs : List ℕ) → length bs ≡ k → AllByRecursion Byte bs → le k (unle bs) ≡ bs
le_unle_at k bs e h = rw (← e) (le_unle bs h)

pub unle_lt : (bs : List ℕ) → AllByRecursion Byte bs → unle bs < 256 ^ length bs
unle_lt [] h = omega arith
unle_lt (b ∷ bs) h =
    let ih = unle_lt bs h.1 in
    rw pow-suc (omega (arith, h.0))

-- the bytes of a number of eight bytes, by one division or several
pub eight_low : (n : ℕ) → to_le_bytes w64 n ≡ le 8 n
eight_low n = search rules
