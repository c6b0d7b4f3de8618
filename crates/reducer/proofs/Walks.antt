-- The predecessors lead back along the kept chain.
use Rattle.std.proofs.Common.{◌≡◌, ℕ, zero, suc, ◌+◌, ◌-◌, ◌<◌, ◌≤◌, true, ◌||◌, eqb, ltb, List, [], ◌∷◌, ◌++◌, length, get_or, sym, refl, ap, ◌∙◌, subst, ⊎_elim, arith}
use Rattle.std.proofs.lemmas.Bool.Decides.{nat_tests}
use Rattle.std.proofs.lemmas.Bool.{cases_Bool}
use Rattle.std.proofs.lemmas.List.{length_push}
use Rattle.reducer.specs.Chains.{Task, Chain, alone, more, Best, Turns, Entry, origin, unreached, reached, Filled, Kept, first, next, Answered}
use Rattle.reducer.specs.Trail.{trail, Led}
use Rattle.reducer.proofs.Optimal.{Sound, entry_best, entry_cut, best_unique, best_first, total_push}

module _ {A : Type 0} (k : Task A) (n : ℕ) (ok : Sound k n) (cs ps : List ℕ) (ts : List A) (room : n ≤ length ps) (filled : Filled k n cs ps ts) where
  abbrev count : ℕ → ℕ
  count j = get_or cs (j - 1) 0

  abbrev before : ℕ → ℕ
  before j = get_or ps (j - 1) 0

  abbrev sum : ℕ → A
  sum j = get_or ts (j - 1) k.start

  entry_turns : (j c p : ℕ) (t : A) → 1 ≤ c → Entry k j c p t → Best k j c t × Turns k p j c t × ((i : ℕ) → i < p → Turns k i j c t → ⊥)
  entry_turns j c p t h (origin e ec ep et) = absurd (omega arith)
  entry_turns j c p t h (unreached cut ec ep et) = absurd (omega arith)
  entry_turns j c p t h (reached b tu fi) = (b, tu, fi)

  pub back : (c j : ℕ) → 1 ≤ j → j ≤ n → count j ≡ c → (eqb j 1 || ltb 0 (count j)) ≡ true → Led ps j (suc c) × Answered k j c (sum j) (trail ps j (suc c))
  back zero j low high e f =
      let one : 1 ≡ j = grind (arith, nat_tests) in
      let best = entry_best k n ok j (count j) (before j) (sum j) (filled j low high) f in
      let best₀ : Best k j 0 (sum j) = subst (λ x. Best k j x (sum j)) e best in
      let best₁ : Best k 1 0 (sum j) = subst (λ x. Best k x 0 (sum j)) (sym one) best₀ in
      let start = (best_unique k n ok 1 0 0 k.start (sum j) (best_first k n ok) best₁).1 in (
        (low, omega arith, tt),
        record {
          errors = [];
          lawful = subst (λ x. Chain k (x ∷ []) x []) one alone;
          chords = refl;
          sums = start;
          best = best₀;
          kept = subst (λ x. Kept k (x ∷ []) x) one first;
        },
      )
  back (suc c) j low high e f =
      let r = entry_turns j (count j) (before j) (sum j) (omega arith) (filled j low high) in
      let tu = r.1 in
      let p = before j in
      let w = ok.within p j tu.chord tu.lawful.0 in
      let inside : p ≤ n = omega arith in
      let entry = filled p w.0 inside in
      let flag : (eqb p 1 || ltb 0 (count p)) ≡ true = ⊎_elim (λ h. h) (λ h. absurd (entry_cut k n ok p _ _ _ entry h _ _ tu.best.lawful)) (cases_Bool (eqb p 1 || ltb 0 (count p))) in
      let same = best_unique k n ok p _ _ _ _ tu.best (entry_best k n ok p (count p) (before p) (sum p) entry flag) in
      let m = tu.chords in
      let c_is : count p ≡ c = omega (arith, same.0) in
      let ih = back c p w.0 inside c_is flag in
      let rest = ih.1 in (
        (low, omega arith, ih.0),
        record {
          errors = rest.errors ++ (tu.chord ∷ []);
          lawful = more rest.lawful w.1 tu.lawful;
          chords = length_push rest.errors tu.chord ∙ omega (arith, rest.chords);
          sums = total_push k n ok rest.errors tu.chord ∙ ap (λ x. k.join x (k.value tu.chord)) (rest.sums ∙ sym same.1) ∙ sym tu.sums;
          best = subst (λ x. Best k j x (sum j)) e r.0;
          kept = next rest.kept r.0 tu r.2;
        },
      )

  -- the walk from the last point, of which the code knows that it is reached
  pub walked : (m : ℕ) → m ≡ n → 1 ≤ m → (eqb m 1 || ltb 0 (count m)) ≡ true → Led ps m (count m + 1) × Answered k n (count m + 1 - 1) (sum m) (trail ps m (count m + 1))
  walked m e low f =
      let r = back (count m) m low (omega arith) refl f in
      let up : suc (count m) ≡ count m + 1 = omega arith in
      let down : count m ≡ count m + 1 - 1 = omega arith in (
        subst (λ x. Led ps m x) up r.0,
        subst (λ x. Answered k n (count m + 1 - 1) (sum m) (trail ps m x)) up (subst (λ x. Answered k n x (sum m) (trail ps m (suc (count m)))) down (subst (λ x. Answered k x (count m) (sum m) (trail ps m (suc (count m)))) e r.1)),
      )
