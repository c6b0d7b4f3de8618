-- Numbers as little-endian bytes.
--   le k n    the k lowest bytes of n, the lowest first
--   unle bs   the number that the bytes stand for
use Rattle.std.specs.Prelude.{ℕ, zero, suc, ◌+◌, ◌*◌, ◌/◌, ◌%◌, List, [], ◌∷◌}

abbrev pub le : ℕ → ℕ → List ℕ
le zero n = []
le (suc k) n = n % 256 ∷ le k (n / 256)

abbrev pub unle : List ℕ → ℕ
unle [] = 0
unle (b ∷ bs) = b + unle bs * 256
