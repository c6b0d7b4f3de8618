-- The tables and the kept chain are determined.
use Rattle.std.proofs.Common.{◌≡◌, ℕ, ◌<◌, List, [], ◌∷◌, ◌++◌, sym, refl, ap, ◌∙◌, subst, ⊎_elim, arith}
use Rattle.std.proofs.lemmas.Bool.{cases_order}
use Rattle.reducer.specs.Chains.{Task, alone, Best, Turns, Cut, Entry, origin, unreached, reached, Kept, first, next}
use Rattle.reducer.proofs.Optimal.{Sound, best_unique}

module _ {A : Type 0} (k : Task A) (n : ℕ) (ok : Sound k n) where
  turns_as : (i j m m' : ℕ) (t t' : A) → m ≡ m' → t ≡ t' → Turns k i j m t → Turns k i j m' t'
  turns_as i j m m' t t' em et u = subst (λ x. Turns k i j x t') em (subst (λ x. Turns k i j m x) et u)

  earliest : (i i' j m m' : ℕ) (t t' : A) → Best k j m t → Best k j m' t' → Turns k i j m t → ((h : ℕ) → h < i → Turns k h j m t → ⊥) → Turns k i' j m' t' → ((h : ℕ) → h < i' → Turns k h j m' t' → ⊥) → i ≡ i'
  earliest i i' j m m' t t' b b' u f u' f' =
      let e = best_unique k n ok j m m' t t' b b' in
      ⊎_elim (λ same. same)
      (λ o. ⊎_elim
      (λ (l : i < i'). absurd (f' i l (turns_as i j m m' t t' e.0 e.1 u)))
      (λ (l : i' < i). absurd (f i' l (turns_as i' j m' m t' t (sym e.0) (sym e.1) u'))) o)
      (cases_order i i')

  not_first : (j c p : ℕ) (t : A) → j ≡ 1 → Turns k p j c t → ⊥
  not_first j c p t e u = let w = ok.within p j u.chord u.lawful.0 in omega arith

  not_cut : (j : ℕ) → Cut k j → j ≡ 1 → ⊥
  not_cut j c e = subst (λ x. Cut k x) e c _ _ alone

  pub entry_unique : (j c c' p p' : ℕ) (t t' : A) → Entry k j c p t → Entry k j c' p' t' → (c ≡ c') × (p ≡ p') × (t ≡ t')
  entry_unique j c c' p p' t t' (origin e a b d) (origin e' a' b' d') = (a ∙ sym a', b ∙ sym b', d ∙ sym d')
  entry_unique j c c' p p' t t' (origin e a b d) (unreached x a' b' d') = (a ∙ sym a', b ∙ sym b', d ∙ sym d')
  entry_unique j c c' p p' t t' (origin e a b d) (reached b' u' f') = absurd (not_first j c' p' t' e u')
  entry_unique j c c' p p' t t' (unreached x a b d) (origin e' a' b' d') = (a ∙ sym a', b ∙ sym b', d ∙ sym d')
  entry_unique j c c' p p' t t' (unreached x a b d) (unreached x' a' b' d') = (a ∙ sym a', b ∙ sym b', d ∙ sym d')
  entry_unique j c c' p p' t t' (unreached x a b d) (reached b' u' f') = absurd (x _ _ b'.lawful)
  entry_unique j c c' p p' t t' (reached b u f) (origin e' a' b' d') = absurd (not_first j c p t e' u)
  entry_unique j c c' p p' t t' (reached b u f) (unreached x a' b' d') = absurd (x _ _ b.lawful)
  entry_unique j c c' p p' t t' (reached b u f) (reached b' u' f') =
      let e = best_unique k n ok j c c' t t' b b' in
      (e.0, earliest p p' j c c' t t' b b' u f u' f', e.1)

  pub kept_unique : {ks ks' : List ℕ} {j j' : ℕ} → j ≡ j' → Kept k ks j → Kept k ks' j' → ks ≡ ks'
  kept_unique e first first = refl
  kept_unique e first (next {m = m} {t = t} r b u f) = absurd (not_first _ m _ t (sym e) u)
  kept_unique e (next {m = m} {t = t} r b u f) first = absurd (not_first _ m _ t e u)
  kept_unique e (next {ks} {i} {j} {m} {t} r b u f) (next {ks = ks'} {i = i'} {j = j'} {m = m'} {t = t'} r' b' u' f') =
      let b'' : Best k j m' t' = subst (λ x. Best k x m' t') (sym e) b' in
      let u'' : Turns k i' j m' t' = subst (λ x. Turns k i' x m' t') (sym e) u' in
      let f'' : (h : ℕ) → h < i' → Turns k h j m' t' → ⊥ = λ h l v. f' h l (subst (λ x. Turns k h x m' t') e v) in
      let same = earliest i i' j m m' t t' b b'' u f u'' f'' in
      let ih = kept_unique same r r' in
      ap (λ x. x ++ (j ∷ [])) ih ∙ ap (λ x. ks' ++ (x ∷ [])) e
