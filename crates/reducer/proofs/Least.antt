-- What a scan finds: the best of what is offered, and the earliest of equals.
use Rattle.std.proofs.Common.{◌≡◌, ℕ, zero, suc, ◌<◌, ◌≤◌, Bool, true, false, ◌⊎◌, Some, None, Option, sym, refl, ap, ◌∙◌, subst, inl, inr, ⊎_elim, arith}
use Rattle.std.proofs.lemmas.Bool.Decides.{nat_tests}
use Rattle.std.proofs.lemmas.Option.{none-some, same_Some}
use Rattle.std.proofs.lemmas.Bool.{cases_lt, cond_both}
use Rattle.reducer.specs.Scan.{choose, scan, step}
use Rattle.total.specs.Pairs.{better}
use Rattle.total.specs.declared.pair.Pair.{Pair}
use Rattle.reducer.specs.declared.step.Step.{Step}

module _ {A : Type 0} (order : A → A → Bool) where
  -- q is better than s, and r is not better than s: q is better than r
  pub better_takes : (q s r : Pair A) → (order s.total r.total ≡ true → order r.total q.total ≡ true → order s.total q.total ≡ true) → better order q s ≡ true → better order r s ≡ false → better order q r ≡ true
  better_takes q s r trans h k = grind (arith, nat_tests)

  pub better_one_way : (q s : Pair A) → ((order q.total s.total ≡ true) ⊎ (order s.total q.total ≡ true)) → better order q s ≡ true → better order s q ≡ false
  better_one_way q s either h = grind (arith, nat_tests)

  pub better_irrefl : (q : Pair A) → ((order q.total q.total ≡ true) ⊎ (order q.total q.total ≡ true)) → better order q q ≡ false
  better_irrefl q either = grind (arith, nat_tests)

-- s is the best of what the points 1 to i offer, and the earliest of equals
pub record Least {A : Type 0} (order : A → A → Bool) (f : ℕ → Option (Pair A)) (i : ℕ) (s : Step A) : Type 0 where
  pub low : 1 ≤ s.from
  pub high : s.from ≤ i
  pub offers : f s.from ≡ Some s.pair
  pub best : (n : ℕ) (q : Pair A) → 1 ≤ n → n ≤ i → f n ≡ Some q → better order q s.pair ≡ false
  pub first : (n : ℕ) (q : Pair A) → 1 ≤ n → n < s.from → f n ≡ Some q → better order s.pair q ≡ true

abbrev pub Scanned : {A : Type 0} (order : A → A → Bool) (f : ℕ → Option (Pair A)) (i : ℕ) → Option (Step A) → Type 0
Scanned {A} order f i None = (n : ℕ) (q : Pair A) → 1 ≤ n → n ≤ i → f n ≡ Some q → ⊥
Scanned order f i (Some s) = Least order f i s

up_to : (n i : ℕ) → n ≤ suc i → (n ≡ suc i) ⊎ (n ≤ i)
up_to n i h = ⊎_elim (λ l. inr (omega arith)) (λ l. inl (omega arith)) (cases_lt n (suc i))

module _ {A : Type 0} (order : A → A → Bool) (f : ℕ → Option (Pair A))
    (either : (n m : ℕ) (p q : Pair A) → f n ≡ Some p → f m ≡ Some q → (order p.total q.total ≡ true) ⊎ (order q.total p.total ≡ true))
    (trans : (n m l : ℕ) (p q r : Pair A) → f n ≡ Some p → f m ≡ Some q → f l ≡ Some r → order p.total q.total ≡ true → order q.total r.total ≡ true → order p.total r.total ≡ true)
  where
    keeps_none : (i : ℕ) (s : Step A) → f (suc i) ≡ None → Least order f i s → Least order f (suc i) s
    keeps_none i s e h = record {
      low = h.low;
      high = omega (arith, h.high);
      offers = h.offers;
      best = λ n q a b g. ⊎_elim (λ w. absurd (none-some q (sym e ∙ ap f (sym w) ∙ g))) (λ l. h.best n q a l g) (up_to n i b);
      first = h.first;
    }

    keeps : (i : ℕ) (s : Step A) (q : Pair A) → f (suc i) ≡ Some q → better order q s.pair ≡ false → Least order f i s → Least order f (suc i) s
    keeps i s q e t h = record {
      low = h.low;
      high = omega (arith, h.high);
      offers = h.offers;
      best = λ n r a b g. ⊎_elim (λ w. let same = same_Some q r (sym e ∙ ap f (sym w) ∙ g) in subst (λ x. better order x s.pair ≡ false) same t) (λ l. h.best n r a l g) (up_to n i b);
      first = h.first;
    }

    takes : (i : ℕ) (s : Step A) (q : Pair A) → f (suc i) ≡ Some q → better order q s.pair ≡ true → Least order f i s → Least order f (suc i) (step (suc i) q)
    takes i s q e t h =
        let beats : (n : ℕ) (r : Pair A) → 1 ≤ n → n ≤ i → f n ≡ Some r → better order q r ≡ true =
        λ n r a l g. better_takes order q s.pair r (trans s.from n (suc i) s.pair r q h.offers g e) t (h.best n r a l g) in
        record {
          low = omega arith;
          high = omega arith;
          offers = e;
          best = λ n r a b g. ⊎_elim
              (λ w. let same = same_Some q r (sym e ∙ ap f (sym w) ∙ g) in subst (λ x. better order x q ≡ false) same (better_irrefl order q (either (suc i) (suc i) q q e e)))
              (λ l. better_one_way order q r (either (suc i) n q r e g) (beats n r a l g)) (up_to n i b);
          first = λ n r a l g. beats n r a (omega arith) g;
        }

    starts : (i : ℕ) (q : Pair A) → f (suc i) ≡ Some q → Scanned order f i None → Least order f (suc i) (step (suc i) q)
    starts i q e h = record {
      low = omega arith;
      high = omega arith;
      offers = e;
      best = λ n r a b g. ⊎_elim
          (λ w. let same = same_Some q r (sym e ∙ ap f (sym w) ∙ g) in subst (λ x. better order x q ≡ false) same (better_irrefl order q (either (suc i) (suc i) q q e e)))
          (λ l. absurd (h n r a l g)) (up_to n i b);
      first = λ n r a l g. absurd (h n r a (omega arith) g);
    }

    chosen_least : (i : ℕ) (o : Option (Step A)) (p : Option (Pair A)) → f (suc i) ≡ p → Scanned order f i o → Scanned order f (suc i) (choose order o (suc i) p)
    chosen_least i None None e h = λ n q a b g. ⊎_elim (λ w. absurd (none-some q (sym e ∙ ap f (sym w) ∙ g))) (λ l. h n q a l g) (up_to n i b)
    chosen_least i (Some s) None e h = keeps_none i s e h
    chosen_least i None (Some q) e h = starts i q e h
    chosen_least i (Some s) (Some q) e h =
        cond_both (better order q s.pair) (Some (step (suc i) q)) (Some s) (λ o. Scanned order f (suc i) o) (λ t. takes i s q e t h) (λ t. keeps i s q e t h)

    pub scan_least : (i : ℕ) → Scanned order f i (scan order f i)
    scan_least zero = λ n q a b g. omega arith
    scan_least (suc i) = chosen_least i (scan order f i) (f (suc i)) refl (scan_least i)
