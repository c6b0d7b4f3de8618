-- The record at the front of some bytes, where it is read.
use Rattle.std.proofs.Common.{◌≡◌, ℕ, ◌+◌, ◌*◌, ◌/◌, ◌%◌, ◌<◌, false, cond, eqb, ltb, List, [], ◌∷◌, ◌++◌, length, take, drop, Some, None, Option, sym, refl, ap, ◌∙◌, subst, arith, length-append, length-drop, take-append-drop, length-take-le, eq-eqb}
use Rattle.std.specs.List.{AllByRecursion}
use Rattle.std.proofs.lemmas.Bool.{eqb-true, ltb-false, le-ltb, cond_both, cond-true, cond-false}
use Rattle.std.proofs.lemmas.List.{take_at, drop_at}
use Rattle.std.proofs.ByRecursion.{All-take, All-drop}
use Rattle.page.specs.declared.fault.PageCause.{PageCause}
use Rattle.page.specs.declared.fault.PageCause.TheVariants.{CutRecord, WrongLength}
use Rattle.page.specs.Little.{le, unle}
use Rattle.page.specs.Records.{Rec, start_rec, plain_rec, corner_rec, order_rec, kind_of, payload, size_of, frame, bad, one, known, sized, front}
use Rattle.page.specs.Fits.{Byte}
use Rattle.page.specs.Causes.{length_at, kind_at}

-- what stands behind the length n and the kind k
record Taken (n k : ℕ) (rest : List ℕ) (r : Rec) (left : List ℕ) : Type 0 where
  pub payload : payload r ≡ take n rest
  pub follows : left ≡ drop n rest
  pub kind : k ≡ kind_of r
  pub size : n ≡ size_of r

pub never : {P : Type 0} {c : PageCause} {r : Rec} {left : List ℕ} → bad c ≡ one r left → P
never e = let z : ◌≡◌ {A = ℕ} 0 1 = cc in absurd (omega arith)

-- a known record has its kind's number, and the payload that it was made of
pub record Known (k : ℕ) (p : List ℕ) (r : Rec) : Type 0 where
  pub payload : payload r ≡ p
  pub kind : k ≡ kind_of r

pub known_one : (k : ℕ) (p : List ℕ) (r : Rec) → known k p ≡ Some r → Known k p r
known_one k p r =
    let arm : (kd : ℕ) (s : Rec) → k ≡ kd → payload s ≡ p → kd ≡ kind_of s → Some s ≡ Some r → Known k p r = λ kd s a b d e. let same : s ≡ r = cc in record { payload = ap payload (sym same) ∙ b; kind = a ∙ d ∙ ap kind_of same } in
    cond_both (eqb k 1) _ _ (λ x. x ≡ Some r → Known k p r)
    (λ t. arm 1 (start_rec p) (eqb-true k 1 t) refl refl)
    (λ _. cond_both (eqb k 2) _ _ (λ x. x ≡ Some r → Known k p r)
    (λ t. arm 2 (plain_rec p) (eqb-true k 2 t) refl refl)
    (λ _. cond_both (eqb k 3) _ _ (λ x. x ≡ Some r → Known k p r)
    (λ t. arm 3 (corner_rec p) (eqb-true k 3 t) refl refl)
    (λ _. cond_both (eqb k 4) _ _ (λ x. x ≡ Some r → Known k p r)
    (λ t. arm 4 (order_rec p) (eqb-true k 4 t) refl refl)
    (λ _ e. let z : ◌≡◌ {A = ℕ} 0 1 = cc in absurd (omega arith)))))

sized_one : (n k : ℕ) (rest : List ℕ) (o : Option Rec) (r : Rec) (left : List ℕ) → known k (take n rest) ≡ o → sized n rest o ≡ one r left → Taken n k rest r left
sized_one n k rest None r left h e = never e
sized_one n k rest (Some s) r left h e0 =
    let f = known_one k (take n rest) s h in
    cond_both (eqb n (size_of s)) (one s (drop n rest)) (bad WrongLength) (λ x. x ≡ one r left → Taken n k rest r left)
    (λ t e.
    let same : s ≡ r = cc in
    record { payload = ap payload (sym same) ∙ f.payload; follows = cc; kind = f.kind ∙ ap kind_of same; size = eqb-true n (size_of s) t ∙ ap size_of same })
    (λ _ e. never e)
    e0

-- what stands at the front of the bytes, by the fields of its header
pub record Fronted (bs : List ℕ) (r : Rec) (left : List ℕ) : Type 0 where
  pub says : length_at bs ≡ size_of r
  pub kind : kind_at bs ≡ kind_of r
  pub all : length bs ≡ 4 + size_of r + length left
  pub size : length (payload r) ≡ size_of r
  pub inside : payload r ≡ take (size_of r) (drop 4 bs)
  pub whole : drop 4 bs ≡ payload r ++ left

pub two_bytes : (a b : ℕ) (bs : List ℕ) → unle (take 2 (a ∷ b ∷ bs)) ≡ a + b * 256
two_bytes a b bs = omega arith

pub front_one : (bs : List ℕ) (r : Rec) (left : List ℕ) → front bs ≡ one r left → Fronted bs r left
front_one [] r left e = never e
front_one (a ∷ []) r left e = never e
front_one (a ∷ b ∷ []) r left e = never e
front_one (a ∷ b ∷ c ∷ []) r left e = never e
front_one (l0 ∷ l1 ∷ k0 ∷ k1 ∷ rest) r left e0 =
    let n : ℕ = l0 + l1 * 256 in
    cond_both (ltb (length rest) n) (bad CutRecord) (sized n rest (known (k0 + k1 * 256) (take n rest))) (λ x. x ≡ one r left → Fronted (l0 ∷ l1 ∷ k0 ∷ k1 ∷ rest) r left)
    (λ _ e. never e)
    (λ f e.
    let t = sized_one n (k0 + k1 * 256) rest (known (k0 + k1 * 256) (take n rest)) r left refl e in
    let enough = ltb-false _ _ f in
    let size = t.size in
    let tail = ap length t.follows ∙ length-drop n rest in
    record {
      says = two_bytes l0 l1 (k0 ∷ k1 ∷ rest) ∙ size;
      kind = two_bytes k0 k1 rest ∙ t.kind;
      all = omega arith;
      size = ap length t.payload ∙ length-take-le n rest enough ∙ size;
      inside = t.payload ∙ ap (λ m. take m rest) size;
      whole = sym ((λ i. t.payload i ++ t.follows i) ∙ take-append-drop n rest);
    })
    e0

pub front_less : (bs : List ℕ) (r : Rec) (left : List ℕ) → front bs ≡ one r left → length left < length bs
front_less bs r left e = let f = front_one bs r left e in omega arith

header : (n a b : ℕ) → a < 256 → b < 256 → n ≡ a + b * 256 → le 2 n ≡ a ∷ b ∷ []
header n a b p q e =
    let low : n % 256 ≡ a = omega arith in
    let quot : n / 256 ≡ b = omega arith in
    let small : b % 256 ≡ b = omega arith in
    let high : n / 256 % 256 ≡ b = ap (λ m. m % 256) quot ∙ small in
    rw (low, high)

-- the bytes are those of the record, and then the others
pub front_split : (bs : List ℕ) (r : Rec) (left : List ℕ) → AllByRecursion Byte bs → front bs ≡ one r left → bs ≡ frame r ++ left
front_split [] r left h e = never e
front_split (a ∷ []) r left h e = never e
front_split (a ∷ b ∷ []) r left h e = never e
front_split (a ∷ b ∷ c ∷ []) r left h e = never e
front_split (l0 ∷ l1 ∷ k0 ∷ k1 ∷ rest) r left h e =
    let f = front_one (l0 ∷ l1 ∷ k0 ∷ k1 ∷ rest) r left e in
    let h1 = header (length (payload r)) l0 l1 h.0 h.1.0 (f.size ∙ sym f.says ∙ two_bytes l0 l1 (k0 ∷ k1 ∷ rest)) in
    let h2 = header (kind_of r) k0 k1 h.1.1.0 h.1.1.1.0 (sym f.kind ∙ two_bytes k0 k1 rest) in
    ap (λ l. l0 ∷ l1 ∷ k0 ∷ k1 ∷ l) f.whole ∙ sym (ap (λ l. (l ++ (le 2 (kind_of r) ++ payload r)) ++ left) h1 ∙ ap (λ l. l0 ∷ l1 ∷ ((l ++ payload r) ++ left)) h2)

pub record Sound (r : Rec) (left : List ℕ) : Type 0 where
  pub bytes : AllByRecursion Byte (payload r)
  pub rest : AllByRecursion Byte left

pub front_sound : (bs : List ℕ) (r : Rec) (left : List ℕ) → AllByRecursion Byte bs → front bs ≡ one r left → Sound r left
front_sound bs r left h e =
    let f = front_one bs r left e in
    let tail : AllByRecursion Byte (payload r ++ left) = subst (AllByRecursion Byte) f.whole (All-drop Byte 4 bs h) in
    record {
      bytes = subst (AllByRecursion Byte) (take_at (payload r) left (length (payload r)) refl) (All-take Byte (length (payload r)) (payload r ++ left) tail);
      rest = subst (AllByRecursion Byte) (drop_at (payload r) left (length (payload r)) refl) (All-drop Byte (length (payload r)) (payload r ++ left) tail);
    }

-- reading what `frame` wrote
known_kind : (r : Rec) → known (kind_of r) (payload r) ≡ Some r
known_kind (start_rec p) = refl
known_kind (plain_rec p) = refl
known_kind (corner_rec p) = refl
known_kind (order_rec p) = refl

small : (r : Rec) → (kind_of r < 256) × (size_of r < 256)
small (start_rec p) = (omega arith, omega arith)
small (plain_rec p) = (omega arith, omega arith)
small (corner_rec p) = (omega arith, omega arith)
small (order_rec p) = (omega arith, omega arith)

two_back : (n : ℕ) → n < 256 → n % 256 + n / 256 % 256 * 256 ≡ n
two_back n h = omega arith

pub front_frame : (rest : List ℕ) (r : Rec) → length (payload r) ≡ size_of r → front (frame r ++ rest) ≡ one r rest
front_frame rest r h =
    let n : ℕ = size_of r in
    let p : List ℕ = payload r in
    let s = small r in
    let says : length p % 256 + length p / 256 % 256 * 256 ≡ n = two_back (length p) (omega arith) ∙ h in
    let kind = two_back (kind_of r) (omega arith) in
    let enough : ltb (length (p ++ rest)) n ≡ false = le-ltb _ _ (omega (arith, length-append p rest)) in
    (λ i. cond (ltb (length (p ++ rest)) (says i)) (bad CutRecord) (sized (says i) (p ++ rest) (known (kind i) (take (says i) (p ++ rest)))))
    ∙ cond-false _ _ _ enough
    ∙ ap (λ l. sized n (p ++ rest) (known (kind_of r) l)) (take_at p rest n h)
    ∙ ap (sized n (p ++ rest)) (known_kind r)
    ∙ cond-true _ _ _ (eq-eqb n n refl)
    ∙ ap (one r) (drop_at p rest n h)
