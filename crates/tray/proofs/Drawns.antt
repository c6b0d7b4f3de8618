-- What a history has drawn is what its calls' steps make, and the other way about.
use Rattle.std.proofs.Common.{◌≡◌, ℕ, suc, ◌+◌, ◌-◌, ◌<◌, true, false, List, [], ◌∷◌, ◌++◌, length, take, drop, ℤ, sym, refl, ap, ◌∙◌, subst, inl, inr, arith}
use Rattle.std.proofs.lemmas.List.{length_push, length-append, length-take-le, take_at, set_at, get_or_at, take_more, take_all, set_split, set-get_or, nil_from_length, append_assoc, append-nil}
use Rattle.std.proofs.lemmas.Bool.Decides.{nat_tests}
use Rattle.std.proofs.lemmas.Bool.{cond-true, cond-false, cases_Bool, cases_eq, both_ways}
use Rattle.tray.specs.declared.point.Point.{Point}
use Rattle.tray.specs.declared.point.Mark.{Mark}
use Rattle.tray.specs.declared.point.Mark.TheVariants.{Plain, Corner}
use Rattle.tray.specs.Stroke.{Lawful, at, origin}
use Rattle.tray.specs.Machine.{plain, marked, put_after, take_back_after, mark_after, lacks}
use Rattle.tray.specs.History.{State, Pen, down, up, at_pen, Call, put, take_back, lift, mark, unmark, clear, reduce, History, ◌▸◌, new, step, step_at, run}
use Rattle.tray.specs.Drawn.{Permits, Permitted, Drawn, fresh, added, kept_out, taken_back, none_back, lifted, cornered, not_cornered, plained, not_plained, cleared, reduced}
use Rattle.tray.proofs.Histories.{run_more}
use Rattle.tray.proofs.Puts.{does_add}
use Rattle.tray.proofs.Lawfuls.{stays_lawful, on_sheet, rises, not_late, not_full, pushed, outcome, taken}

-- one call more, where the state before it is known
on : (h : History) (c : Call) (s : State) → run new h ≡ s → run new (h ▸ c) ≡ step s c
on h c s e = run_more new h c ∙ ap (λ v. step v c) e

put_in : (ps : List Point) (x y : ℤ) (t : ℕ) → Lawful (ps ++ plain x y t ∷ []) → put_after ps x y t ≡ ps ++ plain x y t ∷ []
put_in ps x y t w = sym (does_add ps x y t (on_sheet ps x y t w) (rises ps x y t w) (not_late ps x y t w) (not_full ps x y t w)).1

put_out : (ps : List Point) (x y : ℤ) (t : ℕ) → Lawful ps → (Lawful (ps ++ plain x y t ∷ []) → ⊥) → put_after ps x y t ≡ ps
put_out ps x y t w n = elim (outcome ps x y t) [
  | inl o ↦ o.0
  | inr o ↦ absurd (n (pushed ps x y t w o.0 o.1 o.2 o.3))
]

back : (ps : List Point) (p : Point) → take_back_after (ps ++ p ∷ []) ≡ ps
back ps p = let n : length ps ≡ length (ps ++ p ∷ []) - 1 = rw length_push (omega arith) in take_at ps (p ∷ []) (length (ps ++ p ∷ []) - 1) n

marks : (b : Mark) (ps : List Point) (p : Point) (qs : List Point) (i : ℕ) → length ps + 1 ≡ i →
    mark_after b (ps ++ p ∷ qs) i ≡ ps ++ marked b p ∷ qs
marks b ps p qs i e =
    let k : length ps ≡ i - 1 = omega arith in
    let l : length (ps ++ p ∷ qs) ≡ length ps + length (p ∷ qs) = length-append ps (p ∷ qs) in
    let f : lacks (ps ++ p ∷ qs) i ≡ false = grind (arith, nat_tests) in
    cond-false _ _ _ f ∙ (rw (get_or_at ps p qs origin (i - 1) k) (set_at ps p qs (marked b p) (i - 1) k))

leaves : (b : Mark) (ps : List Point) (i : ℕ) → (0 < i → length ps < i) → mark_after b ps i ≡ ps
leaves b ps i n = let f : lacks ps i ≡ true = grind (arith, nat_tests) in cond-true _ _ _ f

clears : (n : Pen) (ps : List Point) → step (at_pen n ps) clear ≡ new
clears down ps = refl
clears up ps = refl

pub drawn_is : {h : History} {n : Pen} {ps : List Point} → Drawn h n ps → run new h ≡ at_pen n ps
drawn_is fresh = refl
drawn_is (added {h = h} {ps = ps} x y t d w) = on h (put x y t) (at_pen down ps) (drawn_is d) ∙ ap (at_pen down) (put_in ps x y t w)
drawn_is (kept_out {h = h} {ps = ps} x y t d n) =
    on h (put x y t) (at_pen down ps) (drawn_is d)
    ∙ ap (at_pen down) (put_out ps x y t (subst (λ (s : State). Lawful s.points) (drawn_is d) (stays_lawful h)) n)
drawn_is (taken_back {h = h} ps p d) = on h take_back (at_pen down (ps ++ p ∷ [])) (drawn_is d) ∙ ap (at_pen down) (back ps p)
drawn_is (none_back {h = h} d) = on h take_back (at_pen down []) (drawn_is d)
drawn_is (lifted {h = h} {ps = ps} d) = on h lift (at_pen down ps) (drawn_is d)
drawn_is (cornered {h = h} ps p qs i d e) = on h (mark i) (at_pen up (ps ++ p ∷ qs)) (drawn_is d) ∙ ap (at_pen up) (marks Corner ps p qs i e)
drawn_is (not_cornered {h = h} {ps = ps} i d n) = on h (mark i) (at_pen up ps) (drawn_is d) ∙ ap (at_pen up) (leaves Corner ps i n)
drawn_is (plained {h = h} ps p qs i d e) = on h (unmark i) (at_pen up (ps ++ p ∷ qs)) (drawn_is d) ∙ ap (at_pen up) (marks Plain ps p qs i e)
drawn_is (not_plained {h = h} {ps = ps} i d n) = on h (unmark i) (at_pen up ps) (drawn_is d) ∙ ap (at_pen up) (leaves Plain ps i n)
drawn_is (cleared {h = h} {n = n} {ps = ps} d) = on h clear (at_pen n ps) (drawn_is d) ∙ clears n ps
drawn_is (reduced {h = h} {ps = ps} r d) = on h (reduce r) (at_pen up ps) (drawn_is d)

drawn_lawful : {h : History} {n : Pen} {ps : List Point} → Drawn h n ps → Lawful ps
drawn_lawful {h = h} d = subst (λ (s : State). Lawful s.points) (drawn_is d) (stays_lawful h)

drawn_put : {h : History} (ps : List Point) (x y : ℤ) (t : ℕ) → Drawn h down ps → Drawn (h ▸ put x y t) down (put_after ps x y t)
drawn_put {h = h} ps x y t d = elim (outcome ps x y t) [
  | inl o ↦ let P : List Point → Type 0 = λ qs. Drawn (h ▸ put x y t) down qs in subst P (sym o.0)
      (kept_out x y t d (λ w. both_ways _ o.1 (taken ps x y t w)))
  | inr o ↦ let w = pushed ps x y t (drawn_lawful d) o.0 o.1 o.2 o.3 in
      let P : List Point → Type 0 = λ qs. Drawn (h ▸ put x y t) down qs in subst P (sym (put_in ps x y t w)) (added x y t d w)
]

drawn_take_back : {h : History} (ps : List Point) → Drawn h down ps → Drawn (h ▸ take_back) down (take_back_after ps)
drawn_take_back {h = h} ps d = elim (cases_eq (length ps) 0) [
  | inl e ↦
      let P : List Point → Type 0 = λ qs. Drawn h down qs → Drawn (h ▸ take_back) down (take_back_after qs) in
      subst P (sym (nil_from_length ps e)) none_back d
  | inr e ↦
      let k : length ps - 1 < length ps = omega arith in
      let n : length ps - 1 + 1 ≡ length ps = omega arith in
      let f : ps ≡ take (length ps - 1) ps ++ at ps (length ps - 1) ∷ [] =
      sym (take_all (length ps - 1 + 1) ps (omega arith)) ∙ take_more ps (length ps - 1) origin k in
      taken_back (take (length ps - 1) ps) (at ps (length ps - 1)) (subst (Drawn h down) f d)
]

split_at : (ps : List Point) (k : ℕ) → k < length ps → ps ≡ take k ps ++ at ps k ∷ drop (suc k) ps
split_at ps k l = sym (set-get_or ps k origin) ∙ set_split ps k (at ps k) l

-- by the mark that is set, over the two calls
drawn_mark : (b : Mark) (c : ℕ → Call) {h : History} (ps : List Point) (i : ℕ) →
    ((qs : List Point) (p : Point) (rs : List Point) (j : ℕ) → Drawn h up (qs ++ p ∷ rs) → length qs + 1 ≡ j → Drawn (h ▸ c j) up (qs ++ marked b p ∷ rs)) →
    ((qs : List Point) (j : ℕ) → Drawn h up qs → (0 < j → length qs < j) → Drawn (h ▸ c j) up qs) →
    Drawn h up ps → Drawn (h ▸ c i) up (mark_after b ps i)
drawn_mark b c {h = h} ps i there absent d = elim (cases_Bool (lacks ps i)) [
  | inl e ↦ let P : List Point → Type 0 = λ qs. Drawn (h ▸ c i) up qs in
      let n : 0 < i → length ps < i = λ o. grind (arith, nat_tests) in
      subst P (sym (cond-true _ _ _ e)) (absent ps i d n)
  | inr e ↦
      let k : i - 1 < length ps = grind (arith, nat_tests) in
      let o : 0 < i = grind (arith, nat_tests) in
      let l : length (take (i - 1) ps) + 1 ≡ i = rw (length-take-le (i - 1) ps (omega arith)) (omega arith) in
      let P : List Point → Type 0 = λ qs. Drawn (h ▸ c i) up qs in
      subst P (sym (cond-false _ _ _ e ∙ set_split ps (i - 1) (marked b (at ps (i - 1))) k))
      (there (take (i - 1) ps) (at ps (i - 1)) (drop (suc (i - 1)) ps) i (subst (Drawn h up) (split_at ps (i - 1) k) d) l)
]

pub drawn_step : {h : History} (n : Pen) (ps : List Point) (c : Call) → Permits n c → Drawn h n ps →
    Drawn (h ▸ c) (step_at n ps c).pen (step_at n ps c).points
drawn_step down ps (put x y t) q d = drawn_put ps x y t d
drawn_step down ps take_back q d = drawn_take_back ps d
drawn_step down ps lift q d = lifted d
drawn_step down ps (mark i) q d = absurd q
drawn_step down ps (unmark i) q d = absurd q
drawn_step down ps clear q d = cleared d
drawn_step down ps (reduce r) q d = absurd q
drawn_step up ps (put x y t) q d = absurd q
drawn_step up ps take_back q d = absurd q
drawn_step up ps lift q d = absurd q
drawn_step up ps (mark i) q d = drawn_mark Corner mark ps i (λ qs p rs j e l. cornered qs p rs j e l) (λ qs j e l. not_cornered j e l) d
drawn_step up ps (unmark i) q d = drawn_mark Plain unmark ps i (λ qs p rs j e l. plained qs p rs j e l) (λ qs j e l. not_plained j e l) d
drawn_step up ps clear q d = cleared d
drawn_step up ps (reduce r) q d = reduced r d

drawn_from : (g : History) (s : State) (h : History) → Permitted s h → Drawn g s.pen s.points →
    Drawn (g ++ h) (run s h).pen (run s h).points
drawn_from g s [] q d = let P : History → Type 0 = λ v. Drawn v s.pen s.points in subst P (sym (append-nil g)) d
drawn_from g s (c ∷ h) q d =
    let P : History → Type 0 = λ v. Drawn v (run (step s c) h).pen (run (step s c) h).points in
    subst P (append_assoc g (c ∷ []) h) (drawn_from (g ▸ c) (step s c) h q.1 (drawn_step s.pen s.points c q.0 d))

pub run_draws : (h : History) → Permitted new h → Drawn h (run new h).pen (run new h).points
run_draws h q = drawn_from [] new h q fresh
