-- Bytes put into a page one part after another.
use Rattle.std.proofs.Common.{◌≡◌, ℕ, ◌+◌, ◌*◌, ◌<◌, ◌≤◌, true, false, leb, List, [], ◌∷◌, ◌++◌, length, get_or, take, drop, Ok, sym, refl, ap, ◌∙◌, append_assoc, mul-add, arith, length-append, take-append-drop, length-take-le}
use Rattle.std.specs.List.{flat_map}
use Rattle.std.proofs.lemmas.Bool.{cond-true, cond-false}
use Rattle.std.proofs.lemmas.List.{take_at, drop_at, drop-drop, take_more, flat_map_more}
use Rattle.page.specs.declared.fault.PageCause.TheVariants.{ShortPage}
use Rattle.tray.specs.declared.point.Mark.{Mark}
use Rattle.page.specs.declared.kinds.Point.{Point}
use Rattle.page.specs.Records.{record_bytes}
use Rattle.page.specs.Strokes.{Stroke, mark_kind, point_payload, point_bytes, order_bytes, stroke_bytes}
use Rattle.page.specs.Writes.{written}
use Rattle.page.specs.Appends.{refuses, appends}

pub written_none : (at : ℕ) (page : List ℕ) → at ≤ length page → page ≡ written at page []
written_none at page h = let z : at + 0 ≡ at = omega arith in sym (ap (λ m. take at page ++ drop m page) z ∙ take-append-drop at page)

pub written_more : (at m : ℕ) (page a b : List ℕ) → m ≡ at + length a → m + length b ≤ length page → written m (written at page a) b ≡ written at page (a ++ b)
written_more at m page a b e h =
    let n = length-append (take at page) a in
    let t = length-take-le at page (omega arith) in
    let front : length (take at page ++ a) ≡ m = omega arith in
    let rest : List ℕ = drop (at + length a) page in
    let group : written at page a ≡ (take at page ++ a) ++ rest = sym (append_assoc (take at page) a rest) in
    let first : take m (written at page a) ≡ take at page ++ a = ap (take m) group ∙ take_at (take at page ++ a) rest m front in
    let tail : drop m (written at page a) ≡ rest = ap (drop m) group ∙ drop_at (take at page ++ a) rest m front in
    let ab = length-append a b in
    let same : at + length a + length b ≡ at + length (a ++ b) = omega arith in
    let past : drop (m + length b) (written at page a) ≡ drop (at + length (a ++ b)) page = sym (drop-drop (length b) m (written at page a)) ∙ ap (drop (length b)) tail ∙ drop-drop (length b) (at + length a) page ∙ ap (λ k. drop k page) same in
    (λ i. first i ++ (b ++ past i))
    ∙ append_assoc (take at page) a (b ++ drop (at + length (a ++ b)) page)
    ∙ ap (λ l. take at page ++ l) (sym (append_assoc a b (drop (at + length (a ++ b)) page)))

-- one part after those that were put already
pub put_after : (at m : ℕ) (page p q a b c : List ℕ) → p ≡ written at page a → q ≡ written m p c → c ≡ b → m ≡ at + length a → m + length b ≤ length page → q ≡ written at page (a ++ b)
put_after at m page p q a b c ep eq ec e h = eq ∙ ap (written m p) ec ∙ ap (λ l. written m l b) ep ∙ written_more at m page a b e h

-- elements of one width each
module _ {A : Type 0} (f : A → List ℕ) (w : ℕ) (wide : (x : A) → length (f x) ≡ w) where
  pub joined_length : (xs : List A) → length (flat_map f xs) ≡ w * length xs
  joined_length [] = omega arith
  joined_length (x ∷ xs) = omega (arith, length-append (f x) (flat_map f xs), wide x, joined_length xs, mul-add w 1 (length xs))

  pub put_more : (xs : List A) (i : ℕ) (d : A) (start at : ℕ) (page first c : List ℕ) → i < length xs → at ≡ start + w * i → at + w ≤ length first → page ≡ written start first (flat_map f (take i xs)) → c ≡ f (get_or xs i d) → written at page c ≡ written start first (flat_map f (take (i + 1) xs))
  put_more xs i d start at page first c h e room ep ec =
      let t : length (take i xs) ≡ i = length-take-le i xs (omega arith) in
      let n : length (flat_map f (take i xs)) ≡ w * i = joined_length (take i xs) ∙ ap (λ k. w * k) t in
      let one = wide (get_or xs i d) in
      put_after start at first page (written at page c) (flat_map f (take i xs)) (f (get_or xs i d)) c ep refl ec (omega arith) (omega arith)
      ∙ ap (written start first) (flat_map_more f [] (take i xs) (get_or xs i d) ∙ sym (ap (flat_map f) (take_more xs i d h)))

point_wide : (m : Mark) (p : Point) → length (record_bytes (mark_kind m) (point_payload p)) ≡ 12
point_wide m p = refl

pub point_length : (p : Point) → length (point_bytes p) ≡ 12
point_length p = point_wide p.mark p

pub stroke_length : (s : Stroke) → length (stroke_bytes s) ≡ 26 + 12 * length s.points
stroke_length s =
    let a = length-append (flat_map point_bytes s.points) (order_bytes s.order) in
    let b = joined_length point_bytes 12 point_length s.points in
    omega arith

-- WHEN BYTES ARE APPENDED

module _ (used size : ℕ) (page bs : List ℕ) (e : length bs ≡ size) where
  pub appends_short : false ≡ leb (used + size) (length page) → refuses ShortPage used page ≡ appends used page bs
  appends_short h = sym (cond-false _ _ _ (ap (λ n. leb (used + n) (length page)) e ∙ sym h))

  pub appends_fits : (n : ℕ) (out : List ℕ) → true ≡ leb (used + size) (length page) → n ≡ used + size → out ≡ written used page bs → record { answer = Ok n; count = n; bytes = out } ≡ appends used page bs
  appends_fits n out h en ep =
      let m : n ≡ used + length bs = en ∙ sym (ap (λ k. used + k) e) in
      (λ i. record { answer = Ok (m i); count = m i; bytes = ep i }) ∙ sym (cond-true _ _ _ (ap (λ k. leb (used + k) (length page)) e ∙ sym h))
