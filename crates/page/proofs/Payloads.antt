-- Payloads that are read and written again.
use Rattle.std.proofs.Common.{◌≡◌, ℕ, ◌+◌, ◌*◌, ◌^◌, ◌<◌, List, [], ◌∷◌, ◌++◌, length, take, drop, sym, ap, ◌∙◌, subst, arith, length-drop, take-append-drop, length-take-le, w16, SFits, to_z, of_z}
use mir.ValLaws.{to_z-Fits}
use Rattle.std.specs.List.{AllByRecursion}
use Rattle.std.proofs.lemmas.List.{drop-drop}
use Rattle.std.proofs.ByRecursion.{All-take, All-drop}
use Rattle.std.proofs.lemmas.Int.{of_z-to_z}
use Rattle.tray.specs.declared.point.Mark.{Mark}
use Rattle.page.specs.Little.{le, unle}
use Rattle.page.specs.Strokes.{point_payload, order_payload, point_of, order_of}
use Rattle.page.specs.Fits.{Byte, PointFits}
use Rattle.page.proofs.Bytes.{le_unle_at, unle_lt}

pub small : (k : ℕ) (bs : List ℕ) → length bs ≡ k → AllByRecursion Byte bs → unle bs < 256 ^ k
small k bs e h = subst (λ n. unle bs < 256 ^ n) e (unle_lt bs h)

-- a coordinate in two bytes
record Coord (bs : List ℕ) : Type 0 where
  pub again : le 2 (of_z w16 (to_z w16 (unle bs))) ≡ bs
  pub fits : SFits w16 (to_z w16 (unle bs))

coord : (bs : List ℕ) → length bs ≡ 2 → AllByRecursion Byte bs → Coord bs
coord bs e h =
    let s : unle bs < 2 ^ 16 = small 2 bs e h in
    record { again = ap (le 2) (of_z-to_z w16 (unle bs) s) ∙ le_unle_at 2 bs e h; fits = to_z-Fits w16 (unle bs) (record { fits = s }) }

pub record Pointed (m : Mark) (p : List ℕ) : Type 0 where
  pub again : point_payload (point_of m p) ≡ p
  pub fits : PointFits (point_of m p)

pub point : (m : Mark) (p : List ℕ) → length p ≡ 8 → AllByRecursion Byte p → Pointed m p
point m p e h =
    let rest : length (drop 2 p) ≡ 6 = length-drop 2 p ∙ omega arith in
    let last : length (drop 4 p) ≡ 4 = length-drop 4 p ∙ omega arith in
    let x = coord (take 2 p) (length-take-le 2 p (omega arith)) (All-take Byte 2 p h) in
    let y = coord (take 2 (drop 2 p)) (length-take-le 2 (drop 2 p) (omega arith)) (All-take Byte 2 (drop 2 p) (All-drop Byte 2 p h)) in
    let t = le_unle_at 4 (drop 4 p) last (All-drop Byte 4 p h) in
    record {
      again = (λ i. x.again i ++ (y.again i ++ t i)) ∙ ap (λ l. take 2 p ++ (take 2 (drop 2 p) ++ l)) (sym (drop-drop 2 2 p)) ∙ ap (λ l. take 2 p ++ l) (take-append-drop 2 (drop 2 p)) ∙ take-append-drop 2 p;
      fits = record { x = x.fits; y = y.fits; t = small 4 (drop 4 p) last (All-drop Byte 4 p h) };
    }

single : (bs : List ℕ) → length bs ≡ 1 → unle bs ∷ [] ≡ bs
single [] e = absurd (omega arith)
single (b ∷ []) e = let z : b + 0 * 256 ≡ b = omega arith in ap (λ n. n ∷ []) z
single (a ∷ b ∷ bs) e = absurd (omega arith)

pub record Ordered (p : List ℕ) : Type 0 where
  pub again : order_payload (order_of p) ≡ p
  pub span : (order_of p).span < 2 ^ 32
  pub tolerance : (order_of p).tolerance < 2 ^ 64

pub order : (p : List ℕ) → length p ≡ 14 → AllByRecursion Byte p → Ordered p
order p e h =
    let one : length (drop 1 p) ≡ 13 = length-drop 1 p ∙ omega arith in
    let two : length (drop 2 p) ≡ 12 = length-drop 2 p ∙ omega arith in
    let six : length (drop 6 p) ≡ 8 = length-drop 6 p ∙ omega arith in
    let four : length (take 4 (drop 2 p)) ≡ 4 = length-take-le 4 (drop 2 p) (omega arith) in
    let m : (unle (take 1 p)) ∷ [] ≡ take 1 p = single (take 1 p) (length-take-le 1 p (omega arith)) in
    let n : (unle (take 1 (drop 1 p))) ∷ [] ≡ take 1 (drop 1 p) = single (take 1 (drop 1 p)) (length-take-le 1 (drop 1 p) (omega arith)) in
    let bs = All-take Byte 4 (drop 2 p) (All-drop Byte 2 p h) in
    let cs = All-drop Byte 6 p h in
    let s = le_unle_at 4 (take 4 (drop 2 p)) four bs in
    let t = le_unle_at 8 (drop 6 p) six cs in
    record {
      again = (λ i. m i ++ (n i ++ (s i ++ t i)))
          ∙ ap (λ l. take 1 p ++ (take 1 (drop 1 p) ++ (take 4 (drop 2 p) ++ l))) (sym (drop-drop 4 2 p))
          ∙ ap (λ l. take 1 p ++ (take 1 (drop 1 p) ++ l)) (take-append-drop 4 (drop 2 p))
          ∙ ap (λ l. take 1 p ++ (take 1 (drop 1 p) ++ l)) (sym (drop-drop 1 1 p))
          ∙ ap (λ l. take 1 p ++ l) (take-append-drop 1 (drop 1 p))
          ∙ take-append-drop 1 p;
      span = small 4 (take 4 (drop 2 p)) four bs;
      tolerance = small 8 (drop 6 p) six cs;
    }
