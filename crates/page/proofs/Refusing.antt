-- Why the record at the front of some bytes is refused, and that it is not refused where it is read.
use Rattle.std.proofs.Common.{◌≡◌, ℕ, ◌+◌, ◌*◌, ◌<◌, ◌≤◌, eqb, ltb, ◌⊎◌, List, [], ◌∷◌, length, take, drop, Some, None, Option, sym, refl, subst, inl, inr, ⊎_elim, arith}
use Rattle.std.proofs.lemmas.Bool.{eqb-false, ltb-true, ltb-false, cond_both}
use Rattle.page.specs.declared.fault.PageCause.{PageCause}
use Rattle.page.specs.declared.fault.PageCause.TheVariants.{CutRecord, StrangeKind, WrongLength, OutOfPlace, WrongCode, ShortPage}
use Rattle.page.specs.declared.kinds.Part.{Part}
use Rattle.page.specs.Faults.{number_of}
use Rattle.page.specs.Records.{Rec, start_rec, plain_rec, corner_rec, order_rec, kind_of, size_of, bad, one, known, sized, front}
use Rattle.page.specs.Causes.{length_at, kind_at, Long, Holds, Stops}
use Rattle.page.proofs.Framing.{front_one, known_one, two_bytes, never}

-- no cause with a smaller number holds, if none of the first four does
pub firstly : (c : PageCause) (part : Part) (bs : List ℕ) → number_of c ≤ 15 → (11 < number_of c → Holds CutRecord part bs → ⊥) → (12 < number_of c → Holds StrangeKind part bs → ⊥) → (13 < number_of c → Holds WrongLength part bs → ⊥) → (14 < number_of c → Holds OutOfPlace part bs → ⊥) → (d : PageCause) → number_of d < number_of c → Holds d part bs → ⊥
firstly c part bs top a b e f CutRecord l h = a l h
firstly c part bs top a b e f StrangeKind l h = b l h
firstly c part bs top a b e f WrongLength l h = e l h
firstly c part bs top a b e f OutOfPlace l h = f l h
firstly c part bs top a b e f WrongCode l h = omega arith
firstly c part bs top a b e f ShortPage l h = h

pub uncut : (part : Part) (bs : List ℕ) → 4 + length_at bs ≤ length bs → Holds CutRecord part bs → ⊥
uncut part bs enough h = ⊎_elim (λ l. omega arith) (λ l. omega arith) h.1

known_kinds : (r : Rec) → (1 ≤ kind_of r) × (kind_of r ≤ 4)
known_kinds (start_rec p) = (omega arith, omega arith)
known_kinds (plain_rec p) = (omega arith, omega arith)
known_kinds (corner_rec p) = (omega arith, omega arith)
known_kinds (order_rec p) = (omega arith, omega arith)

long : (r : Rec) (k n : ℕ) → k ≡ kind_of r → n ≡ size_of r → Long k n
long (start_rec p) k n a b = inl (a, b)
long (plain_rec p) k n a b = inr (inl (a, b))
long (corner_rec p) k n a b = inr (inr (inl (a, b)))
long (order_rec p) k n a b = inr (inr (inr (a, b)))

-- a record that is read is none of the first three causes
pub record Sane (part : Part) (bs : List ℕ) : Type 0 where
  pub uncut : Holds CutRecord part bs → ⊥
  pub known : Holds StrangeKind part bs → ⊥
  pub long : Holds WrongLength part bs → ⊥

pub front_sane : (part : Part) (bs : List ℕ) (r : Rec) (left : List ℕ) → front bs ≡ one r left → Sane part bs
front_sane part bs r left e =
    let f = front_one bs r left e in
    let k = known_kinds r in
    record {
      uncut = uncut part bs (omega arith);
      known = λ h. ⊎_elim (λ l. omega arith) (λ l. omega arith) h.1;
      long = λ h. h.1 (long r (kind_at bs) (length_at bs) f.kind f.says);
    }

fine : {P : Type 0} {c : PageCause} {r : Rec} {left : List ℕ} → one r left ≡ bad c → P
fine e = never (sym e)

-- the header says the length n and the kind k, and that many bytes follow it
record Headed (bs : List ℕ) (n k : ℕ) : Type 0 where
  pub says : length_at bs ≡ n
  pub kind : kind_at bs ≡ k
  pub enough : 4 + n ≤ length bs

strange : (k : ℕ) → (k ≡ 1 → ⊥) → (k ≡ 2 → ⊥) → (k ≡ 3 → ⊥) → (k ≡ 4 → ⊥) → (k < 1) ⊎ (4 < k)
strange k a b c d = cond_both {A = ℕ} (ltb k 1) 0 0 (λ _. (k < 1) ⊎ (4 < k)) (λ t. inl (ltb-true k 1 t)) (λ f. inr (omega (arith, ltb-false k 1 f)))

known_none : (k : ℕ) (p : List ℕ) → known k p ≡ None → (k < 1) ⊎ (4 < k)
known_none k p =
    let no : (s : Rec) → Some s ≡ None → (k < 1) ⊎ (4 < k) = λ s e. let z : ◌≡◌ {A = ℕ} 0 1 = cc in absurd (omega arith) in
    cond_both (eqb k 1) _ _ (λ x. x ≡ None → (k < 1) ⊎ (4 < k)) (λ _. no (start_rec p))
    (λ a. cond_both (eqb k 2) _ _ (λ x. x ≡ None → (k < 1) ⊎ (4 < k)) (λ _. no (plain_rec p))
    (λ b. cond_both (eqb k 3) _ _ (λ x. x ≡ None → (k < 1) ⊎ (4 < k)) (λ _. no (corner_rec p))
    (λ c. cond_both (eqb k 4) _ _ (λ x. x ≡ None → (k < 1) ⊎ (4 < k)) (λ _. no (order_rec p))
    (λ d _. strange k (eqb-false k 1 a) (eqb-false k 2 b) (eqb-false k 3 c) (eqb-false k 4 d)))))

-- the one length that a kind has
only : (s : Rec) (n : ℕ) → Long (kind_of s) n → n ≡ size_of s
only (start_rec p) n = ⊎_elim (λ x. x.1) (⊎_elim (λ x. absurd (omega arith)) (⊎_elim (λ x. absurd (omega arith)) (λ x. absurd (omega arith))))
only (plain_rec p) n = ⊎_elim (λ x. absurd (omega arith)) (⊎_elim (λ x. x.1) (⊎_elim (λ x. absurd (omega arith)) (λ x. absurd (omega arith))))
only (corner_rec p) n = ⊎_elim (λ x. absurd (omega arith)) (⊎_elim (λ x. absurd (omega arith)) (⊎_elim (λ x. x.1) (λ x. absurd (omega arith))))
only (order_rec p) n = ⊎_elim (λ x. absurd (omega arith)) (⊎_elim (λ x. absurd (omega arith)) (⊎_elim (λ x. absurd (omega arith)) (λ x. x.1)))

module _ (part : Part) (bs : List ℕ) where
  -- the cause that was told is the one that holds
  as_told : (c d : PageCause) → bad c ≡ bad d → Stops c part bs → Stops d part bs
  as_told c d e s = let same : c ≡ d = cc in subst (λ x. Stops x part bs) same s

  stops_cut : Holds CutRecord part bs → Stops CutRecord part bs
  stops_cut h = record { holds = h; first = firstly CutRecord part bs (omega arith) (λ l x. omega arith) (λ l x. omega arith) (λ l x. omega arith) (λ l x. omega arith) }

  stops_strange : (n k : ℕ) → Headed bs n k → (k < 1) ⊎ (4 < k) → Stops StrangeKind part bs
  stops_strange n k t s =
      record {
        holds = (omega arith, ⊎_elim (λ l. inl (omega arith)) (λ l. inr (omega arith)) s);
        first = firstly StrangeKind part bs (omega arith) (λ l. uncut part bs (omega arith)) (λ l x. omega arith) (λ l x. omega arith) (λ l x. omega arith);
      }

  stops_length : (n k size : ℕ) → Headed bs n k → 1 ≤ k → k ≤ 4 → ((m : ℕ) → Long k m → m ≡ size) → (n ≡ size → ⊥) → Stops WrongLength part bs
  stops_length n k size t a b only other =
      record {
        holds = (omega arith, λ l. other (only n (subst (λ x. Long x n) t.kind (subst (λ x. Long (kind_at bs) x) t.says l))));
        first = firstly WrongLength part bs (omega arith) (λ l. uncut part bs (omega arith)) (λ l x. ⊎_elim (λ y. omega arith) (λ y. omega arith) x.1) (λ l x. omega arith) (λ l x. omega arith);
      }

  sized_bad : (n k : ℕ) (rest : List ℕ) (o : Option Rec) (c : PageCause) → known k (take n rest) ≡ o → Headed bs n k → sized n rest o ≡ bad c → Stops c part bs
  sized_bad n k rest None c h t e = as_told StrangeKind c e (stops_strange n k t (known_none k (take n rest) h))
  sized_bad n k rest (Some s) c h t e0 =
      let f = known_one k (take n rest) s h in
      let kd = known_kinds s in
      cond_both (eqb n (size_of s)) (one s (drop n rest)) (bad WrongLength) (λ x. x ≡ bad c → Stops c part bs)
      (λ _ e. fine e)
      (λ u e. as_told WrongLength c e (stops_length n k (size_of s) t (omega (arith, f.kind)) (omega (arith, f.kind)) (λ m l. only s m (subst (λ x. Long x m) f.kind l)) (eqb-false n (size_of s) u)))
      e0

pub front_bad : (part : Part) (b : ℕ) (bs : List ℕ) (c : PageCause) → front (b ∷ bs) ≡ bad c → Stops c part (b ∷ bs)
front_bad part a [] c e = as_told part _ CutRecord c e (stops_cut part _ (omega arith, inl (omega arith)))
front_bad part a (b ∷ []) c e = as_told part _ CutRecord c e (stops_cut part _ (omega arith, inl (omega arith)))
front_bad part a (b ∷ d ∷ []) c e = as_told part _ CutRecord c e (stops_cut part _ (omega arith, inl (omega arith)))
front_bad part l0 (l1 ∷ k0 ∷ k1 ∷ rest) c e0 =
    let n : ℕ = l0 + l1 * 256 in
    let bs : List ℕ = l0 ∷ l1 ∷ k0 ∷ k1 ∷ rest in
    cond_both (ltb (length rest) n) (bad CutRecord) (sized n rest (known (k0 + k1 * 256) (take n rest))) (λ x. x ≡ bad c → Stops c part bs)
    (λ t e. let short = ltb-true (length rest) n t in as_told part bs CutRecord c e (stops_cut part bs (omega arith, inr (omega arith))))
    (λ f e.
    let enough = ltb-false (length rest) n f in
    sized_bad part bs n (k0 + k1 * 256) rest (known (k0 + k1 * 256) (take n rest)) c refl (record { says = two_bytes l0 l1 (k0 ∷ k1 ∷ rest); kind = two_bytes k0 k1 rest; enough = omega arith }) e)
    e0
