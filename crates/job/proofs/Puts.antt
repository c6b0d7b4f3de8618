-- What an answered put tells, and what the puts of a stroke make.
use Rattle.std.proofs.Common.{◌≡◌, ℕ, ◌+◌, ◌<◌, true, false, List, [], ◌∷◌, ◌++◌, map, length, ℤ, is_ok, Ok, Err, Result, sym, refl, ap, ◌∙◌, subst, inl, inr, arith}
use mathlib.Core.List.{foldl, foldl-append}
use Rattle.std.proofs.lemmas.Bool.{both_ways, leb-false}
use Rattle.std.proofs.lemmas.List.{append-nil, append_assoc}
use Rattle.refusal.specs.declared.Told.{Told}
use Rattle.tray.specs.declared.point.Point.{Point}
use Rattle.tray.specs.Machine.{plain, if_answered, put_says, put_after}
use Rattle.tray.proofs.Puts.{does_add}
use Rattle.tray.proofs.Lawfuls.{outcome}
use Rattle.page.specs.declared.kinds.Point.{Point as Dot}
use Rattle.job.specs.Answer.{plain_of, put_on, drawn_with, drawing}

-- an answered put adds its point to a tray that is not full
pub record Added (ps : List Point) (vx vy : ℤ) (vt n : ℕ) : Type 0 where
  pub number : n ≡ length ps + 1
  pub room : length ps < 512
  pub after : put_after ps vx vy vt ≡ ps ++ plain vx vy vt ∷ []

ok_same : (m n : ℕ) (r : Result ℕ Told) → Ok m ≡ r → Ok n ≡ r → m ≡ n
ok_same m n r p q = cc

pub added : (ps : List Point) (vx vy : ℤ) (vt n : ℕ) → Ok n ≡ put_says ps vx vy vt → Added ps vx vy vt n
added ps vx vy vt n e = elim (outcome ps vx vy vt) [
  | inl o ↦ let z : true ≡ false = ap is_ok e ∙ o.1 in absurd (both_ways true z refl)
  | inr o ↦ let d = does_add ps vx vy vt o.0 o.1 o.2 o.3 in
      record { number = ok_same n (length ps + 1) _ e d.0; room = leb-false 512 (length ps) o.3; after = sym d.1 }
]

-- a refused put leaves the points as they were
pub refused_put : (ps : List Point) (vx vy : ℤ) (vt : ℕ) (t : Told) → Err t ≡ put_says ps vx vy vt → put_after ps vx vy vt ≡ ps
unfolding put_after
refused_put ps vx vy vt t e = ap (λ r. if_answered r (ps ++ plain vx vy vt ∷ []) ps) (sym e)

-- one point more
pub drawing_more : (ps : List Dot) (p : Dot) → drawing (ps ++ p ∷ []) ≡ drawn_with (drawing ps) p
drawing_more ps p = foldl-append drawn_with (Ok []) ps (p ∷ [])

pub err_ok : {X : Type 0} (t : Told) (x : X) (r : Result X Told) → r ≡ Err t → r ≡ Ok x → ⊥
err_ok t x r p q = let z : ◌≡◌ {A = ℕ} 0 1 = cc in omega arith

pub stays_refused : (t : Told) (ps : List Dot) → foldl drawn_with (Err t) ps ≡ Err t
stays_refused t [] = refl
stays_refused t (p ∷ ps) = stays_refused t ps

ok_list : (qs rs : List Point) (r : Result (List Point) Told) → r ≡ Ok qs → r ≡ Ok rs → qs ≡ rs
ok_list qs rs r p q = cc

-- where no put was refused the tray has each point, plain
abbrev PlainFrom : List Dot → Type 0
PlainFrom ps = (acc qs : List Point) → foldl drawn_with (Ok acc) ps ≡ Ok qs → qs ≡ acc ++ map plain_of ps

plain_put : (p : Dot) (ps : List Dot) → PlainFrom ps → (acc qs : List Point) (r : Result ℕ Told) → r ≡ put_says acc p.x p.y p.t →
    foldl drawn_with (put_on acc p r) ps ≡ Ok qs → qs ≡ acc ++ map plain_of (p ∷ ps)
plain_put p ps ih acc qs (Err t) f h = absurd (err_ok t qs _ (stays_refused t ps) h)
plain_put p ps ih acc qs (Ok n) f h =
    let a = added acc p.x p.y p.t n f in
    let P : List Point → Type 0 = λ v. foldl drawn_with (Ok v) ps ≡ Ok qs in
    ih (acc ++ (plain_of p ∷ [])) qs (subst P a.after h) ∙ append_assoc acc (plain_of p ∷ []) (map plain_of ps)

plain_from : (ps : List Dot) → PlainFrom ps
plain_from [] acc qs e = ok_list qs acc (Ok acc) e refl ∙ sym (append-nil acc)
plain_from (p ∷ ps) acc qs e = plain_put p ps (plain_from ps) acc qs (put_says acc p.x p.y p.t) refl e

pub drawn_plain : (ps : List Dot) (qs : List Point) → drawing ps ≡ Ok qs → qs ≡ map plain_of ps
drawn_plain ps qs e = plain_from ps [] qs e
