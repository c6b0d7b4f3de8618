-- The law shuts out each worthless reply, and a stroke has one kept chain.
use Rattle.std.proofs.Common.{◌≡◌, ℕ, ◌<◌, ◌≤◌, Bool, List, [], ◌∷◌, ◌++◌, length, Some, Option, sym, refl, ap, ◌∙◌, subst, ⊎_elim, arith}
use Rattle.std.proofs.lemmas.Option.{same_Some}
use Rattle.std.proofs.lemmas.Bool.{both_ways, cases_order}
use Rattle.std.proofs.lemmas.List.{length_push, same_from_push}
use Rattle.tray.specs.declared.point.Point.{Point}
use Rattle.reducer.specs.Chains.{LawfulChain, alone, more}
use Rattle.tray.specs.Reductions.{Reduction, Reply, answered}
use Rattle.reducer.specs.Law.{Turns, Kept, first, next, Keeps, KeepsIfAnswered, IsAnswered, SaysNoWay, Right}
use Rattle.reducer.specs.Worthless.{ShutOut, OneKept}

two : (x y : List ℕ) → length x ≡ 1 → length y ≡ 2 → x ≡ y → ⊥
two x y a b e = let z = ap length e in omega arith

-- a chain has one end and one row of errors
module _ (error : ℕ → ℕ → Option ℕ) (t : ℕ) where
  some_point : {ks es : List ℕ} {j : ℕ} → LawfulChain error t ks j es → 1 ≤ length ks
  some_point alone = omega arith
  some_point (more {ks} {es} {i} {j} {e} c up l) = rw length_push (omega arith)

  chain_errors : {ks ls es fs : List ℕ} {i j : ℕ} → LawfulChain error t ks i es → LawfulChain error t ls j fs → ks ≡ ls → (i ≡ j) × (es ≡ fs)
  chain_errors alone alone q = (refl, refl)
  chain_errors alone (more {ks} {es} {i} {j} {e} c up l) q = let n = ap length q ∙ length_push ks j in let s = some_point c in absurd (omega arith)
  chain_errors (more {ks} {es} {i} {j} {e} c up l) alone q = let n = sym (length_push ks j) ∙ ap length q in let s = some_point c in absurd (omega arith)
  chain_errors (more {ks} {es} {i} {j} {e} c up l) (more {ks = ks'} {es = es'} {i = i'} {j = j'} {e = e'} c' up' l') q =
      let s = same_from_push ks ks' j j' q in
      let r = chain_errors c c' s.0 in
      let o : error i j ≡ error i' j' = ap (λ x. error x j) r.0 ∙ ap (error i') s.1 in
      let x : e ≡ e' = same_Some e e' (sym l.0 ∙ o ∙ l'.0) in
      (s.1, ap (λ z. es ++ (z ∷ [])) x ∙ ap (λ zs. zs ++ (e' ∷ [])) r.1)

  -- the chord of two ends
  ends : {ks es : List ℕ} {j : ℕ} (n : ℕ) → LawfulChain error t ks j es → ks ≡ 1 ∷ (n ∷ []) → (e : ℕ) × ((error 1 n ≡ Some e) × (e ≤ t))
  ends n alone q = absurd (two _ _ refl refl q)
  ends n (more {ks} {es} {i} {j} {e} c up l) q =
      let s = same_from_push ks (1 ∷ []) j n q in
      let r = chain_errors c alone s.0 in
      (e, (sym (ap (λ x. error x j) r.0 ∙ ap (error 1) s.1) ∙ l.0, l.1))

module _ (stroke : List Point) (r : Reduction) where
  keeps_of : (ks : List ℕ) (count : ℕ) (has : List ℕ → Bool) → r.reply ≡ answered ks count has → Right stroke r → Keeps stroke r ks count has
  keeps_of ks count has e x = let P : Reply → Type 0 = λ y. KeepsIfAnswered stroke r y in subst P e x.keeps

  pub shut_out : ShutOut stroke r
  shut_out = record {
    too_many = λ ks count has e ls fs y l x. let k = keeps_of ks count has e x in omega (arith, k.fewest ls fs y);
    ends_unasked = λ count has e n x. let k = keeps_of _ count has e x in
        let c = ends (r.meaning stroke) r.tolerance (length stroke) k.lawful refl in n c.0 c.1.0 c.1.1;
    stale = λ ks count has e n x. n (keeps_of ks count has e x).kept_chain;
    false_count = λ ks count has e n x. n (keeps_of ks count has e x).counted;
    false_total = λ ks count has e es y f x. let k = keeps_of ks count has e x in
        let same = (chain_errors (r.meaning stroke) r.tolerance y k.lawful refl).1 in
        both_ways (has es) f (ap has same ∙ k.totalled);
    unsearched = λ t e n s ks es y x. let P : Reply → Type 0 = λ z. SaysNoWay stroke r z in
        x.truly_none s (subst P (sym e) n) ks es y;
    refuses_all = λ t e s ks es y room x.
        let P : Reply → Type 0 = λ z. IsAnswered stroke r z in
        ⊎_elim (λ a. subst P e a) (λ q. omega (arith, q.1.1, room q.0 q.1.0)) (x.otherwise s ks es y);
  }

module _ (stroke : List Point) (r : Reduction) (within : (i j e : ℕ) → r.meaning stroke i j ≡ Some e → (1 ≤ i) × (i < j) × (j ≤ length stroke)) where
  not_first : (i j : ℕ) → j ≡ 1 → Turns stroke r i j → ⊥
  not_first i j e u = let w = within i j u.error u.chord.0 in omega arith

  earliest : (i i' j : ℕ) → Turns stroke r i j → ((h : ℕ) → h < i → Turns stroke r h j → ⊥) → Turns stroke r i' j → ((h : ℕ) → h < i' → Turns stroke r h j → ⊥) → i ≡ i'
  earliest i i' j u f u' f' = ⊎_elim (λ same. same)
      (λ o. ⊎_elim (λ (l : i < i'). absurd (f' i l u)) (λ (l : i' < i). absurd (f i' l u')) o)
      (cases_order i i')

  kept_one : {ks ls : List ℕ} {j j' : ℕ} → j ≡ j' → Kept stroke r ks j → Kept stroke r ls j' → ks ≡ ls
  kept_one e first first = refl
  kept_one e first (next q u f) = absurd (not_first _ _ (sym e) u)
  kept_one e (next q u f) first = absurd (not_first _ _ e u)
  kept_one e (next {ks = ks} {i = i} {j = j} q u f) (next {ks = ls} {i = i'} {j = j'} q' u' f') =
      let u'' : Turns stroke r i' j = subst (λ x. Turns stroke r i' x) (sym e) u' in
      let f'' : (h : ℕ) → h < i' → Turns stroke r h j → ⊥ = λ h l v. f' h l (subst (λ x. Turns stroke r h x) e v) in
      let ih = kept_one (earliest i i' j u f u'' f'') q q' in
      ap (λ x. x ++ (j ∷ [])) ih ∙ ap (λ x. ls ++ (x ∷ [])) e

pub one_kept : OneKept
one_kept stroke r within ks ls j a b = kept_one stroke r within refl a b
