-- A record that is read: whether a cause holds where it stands.
use Rattle.std.proofs.Common.{◌≡◌, ℕ, ◌+◌, ◌*◌, ◌≤◌, true, false, leb, List, [], ◌∷◌, length, get_or, take, drop, Ok, Err, Result, sym, refl, ap, ◌∙◌, subst, inl, inr, ⊎_elim, arith}
use Rattle.std.proofs.lemmas.Bool.{cond_both, and_parts, and_cases, leb-true, leb-false}
use Rattle.refusal.specs.declared.Told.{Told}
use Rattle.page.specs.declared.fault.PageCause.{PageCause}
use Rattle.page.specs.declared.fault.PageCause.TheVariants.{CutRecord, StrangeKind, WrongLength, OutOfPlace, WrongCode, ShortPage}
use Rattle.page.specs.declared.kinds.Order.{Order}
use Rattle.page.specs.declared.kinds.Part.{Part}
use Rattle.page.specs.declared.kinds.Part.TheVariants.{Outside, Inside}
use Rattle.page.specs.declared.kinds.Step.{Step}
use Rattle.page.specs.declared.kinds.Step.TheVariants.{Finish}
use Rattle.page.specs.Little.{unle}
use Rattle.page.specs.Faults.{told_at}
use Rattle.page.specs.Records.{Rec, start_rec, plain_rec, corner_rec, order_rec, one, front}
use Rattle.page.specs.Strokes.{order_of, code, codes}
use Rattle.page.specs.Codes.{known_order}
use Rattle.page.specs.Steps.{meant}
use Rattle.page.specs.Causes.{kind_at, Code, Holds, Stops}
use Rattle.page.proofs.Framing.{front_one}
use Rattle.page.proofs.Refusing.{Sane, front_sane, firstly}

-- no cause holds of a record that says something, and one stops the reading at any other
abbrev pub Judge : ℕ → Part → List ℕ → Result Step Told → Type 0
Judge place part bs (Ok s) = (c : PageCause) → Holds c part bs → ⊥
Judge place part bs (Err t) = (c : PageCause) × ((t ≡ told_at c place) × Stops c part bs)

module _ (place : ℕ) (part : Part) (bs : List ℕ) (sane : Sane part bs) where
  none : (Holds OutOfPlace part bs → ⊥) → (Holds WrongCode part bs → ⊥) → (c : PageCause) → Holds c part bs → ⊥
  none a b CutRecord h = sane.uncut h
  none a b StrangeKind h = sane.known h
  none a b WrongLength h = sane.long h
  none a b OutOfPlace h = a h
  none a b WrongCode h = b h
  none a b ShortPage h = h

  misplaced : Holds OutOfPlace part bs → Judge place part bs (Err (told_at OutOfPlace place))
  misplaced h = (OutOfPlace, (refl, record { holds = h; first = firstly OutOfPlace part bs (omega arith) (λ _. sane.uncut) (λ _. sane.known) (λ _. sane.long) (λ l x. omega arith) }))

  miscoded : (Holds OutOfPlace part bs → ⊥) → Holds WrongCode part bs → Judge place part bs (Err (told_at WrongCode place))
  miscoded a h = (WrongCode, (refl, record { holds = h; first = firstly WrongCode part bs (omega arith) (λ _. sane.uncut) (λ _. sane.known) (λ _. sane.long) (λ _. a) }))

-- CODES

code_true : (n : ℕ) → code n ≡ true → Code n
code_true n e = let p = and_parts (leb 1 n) (leb n 3) e in (leb-true 1 n p.0, leb-true n 3 p.1)

code_false : (n : ℕ) → code n ≡ false → Code n → ⊥
code_false n e h = ⊎_elim (λ a. omega (arith, leb-false 1 n a)) (λ b. omega (arith, leb-false n 3 b)) (and_cases (leb 1 n) (leb n 3) e)

record CodesAt (bs p : List ℕ) : Type 0 where
  pub measure : (order_of p).measure ≡ get_or bs 4 0
  pub total : (order_of p).total ≡ get_or bs 5 0

codes_at : (bs p : List ℕ) → 6 ≤ length bs → p ≡ take 14 (drop 4 bs) → CodesAt bs p
codes_at [] p h e = absurd (omega arith)
codes_at (a ∷ []) p h e = absurd (omega arith)
codes_at (a ∷ b ∷ []) p h e = absurd (omega arith)
codes_at (a ∷ b ∷ c ∷ []) p h e = absurd (omega arith)
codes_at (a ∷ b ∷ c ∷ d ∷ []) p h e = absurd (omega arith)
codes_at (a ∷ b ∷ c ∷ d ∷ m ∷ []) p h e = absurd (omega arith)
codes_at (a ∷ b ∷ c ∷ d ∷ m ∷ n ∷ bs) p h e =
    let x : m + 0 * 256 ≡ m = omega arith in
    let y : n + 0 * 256 ≡ n = omega arith in
    record { measure = ap (λ l. unle (take 1 l)) e ∙ x; total = ap (λ l. unle (take 1 (drop 1 l))) e ∙ y }

-- EVERY KIND, BETWEEN STROKES AND INSIDE ONE

inner : (bs : List ℕ) → 4 ≤ length bs → (kind_at bs ≡ 1 → ⊥) → Holds OutOfPlace Inside bs → ⊥
inner bs long other h = ⊎_elim (λ e. omega arith) (λ x. other x.1) h

judge_order : (place : ℕ) (bs p left : List ℕ) → front bs ≡ one (order_rec p) left → Judge place Inside bs (meant place Inside (order_rec p))
judge_order place bs p left e =
    let f = front_one bs (order_rec p) left e in
    let sane = front_sane Inside bs (order_rec p) left e in
    let o : Order = order_of p in
    let at = codes_at bs p (omega arith) f.inside in
    let right : Holds OutOfPlace Inside bs → ⊥ = inner bs (omega arith) (λ k. omega arith) in
    cond_both (codes o) (Ok (Finish (known_order o))) (Err (told_at WrongCode place)) (Judge place Inside bs)
    (λ t.
    let both = and_parts (code o.measure) (code o.total) t in
    none place Inside bs sane right
    (λ h. ⊎_elim (λ bad. bad (subst Code at.measure (code_true o.measure both.0))) (λ bad. bad (subst Code at.total (code_true o.total both.1))) h.2))
    (λ u.
    miscoded place Inside bs sane right (
      omega arith,
      f.kind,
      ⊎_elim (λ a. inl (λ c. code_false o.measure a (subst Code (sym at.measure) c))) (λ b. inr (λ c. code_false o.total b (subst Code (sym at.total) c))) (and_cases (code o.measure) (code o.total) u),
    ))

module _ (place : ℕ) (bs : List ℕ) (r : Rec) (left : List ℕ) (e : front bs ≡ one r left) where
  -- a start between strokes, or another record inside one, but for an order
  read_well : (part : Part) → (Holds OutOfPlace part bs → ⊥) → (kind_at bs ≡ 4 → ⊥) → (c : PageCause) → Holds c part bs → ⊥
  read_well part a b = none place part bs (front_sane part bs r left e) a (λ h. b h.1)

  read_ill : (part : Part) → Holds OutOfPlace part bs → Judge place part bs (Err (told_at OutOfPlace place))
  read_ill part h = misplaced place part bs (front_sane part bs r left e) h

pub judge : (place : ℕ) (part : Part) (bs : List ℕ) (r : Rec) (left : List ℕ) → front bs ≡ one r left → Judge place part bs (meant place part r)
judge place Outside bs (start_rec p) left e = let f = front_one bs _ left e in read_well place bs _ left e Outside (λ h. h.1 f.kind) (λ k. omega arith)
judge place Outside bs (plain_rec p) left e = let f = front_one bs _ left e in read_ill place bs _ left e Outside (omega arith, λ k. omega arith)
judge place Outside bs (corner_rec p) left e = let f = front_one bs _ left e in read_ill place bs _ left e Outside (omega arith, λ k. omega arith)
judge place Outside bs (order_rec p) left e = let f = front_one bs _ left e in read_ill place bs _ left e Outside (omega arith, λ k. omega arith)
judge place Inside bs (start_rec p) left e = let f = front_one bs _ left e in read_ill place bs _ left e Inside (inr (omega arith, f.kind))
judge place Inside bs (plain_rec p) left e = let f = front_one bs _ left e in read_well place bs _ left e Inside (inner bs (omega arith) (λ k. omega arith)) (λ k. omega arith)
judge place Inside bs (corner_rec p) left e = let f = front_one bs _ left e in read_well place bs _ left e Inside (inner bs (omega arith) (λ k. omega arith)) (λ k. omega arith)
judge place Inside bs (order_rec p) left e = judge_order place bs p left e
