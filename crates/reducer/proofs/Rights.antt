-- What the reducer promises of its tables makes each of its calls right.
use Rattle.std.proofs.Common.{◌≡◌, ℕ, ◌+◌, ◌-◌, ◌<◌, ◌≤◌, true, ◌&&◌, List, length, take, Some, Ok, Err, Option, Result, sym, refl, ap, ◌∙◌, subst, inl, inr, ⊎_elim, arith}
use Rattle.std.proofs.lemmas.Bool.{and_from}
use Rattle.std.proofs.lemmas.List.{length_push}
use Rattle.total.specs.declared.total.Total.{Ghosts}
use Rattle.reducer.specs.declared.answer.Answer.{Answer}
use Rattle.tray.specs.declared.point.Point.{Point}
use Rattle.tray.specs.declared.causes.Refusal.{Refusal}
use Rattle.tray.specs.declared.causes.Refusal.TheVariants.{OffSheet, StoppedClock, LongStroke, FullTray, BareTray, NoSuchPoint, WideTolerance, ShortTable, NoWay, ShortList}
use Rattle.total.specs.Laws.{Laws, limit}
use Rattle.reducer.specs.Chains as chains
use Rattle.reducer.specs.Chains.{Task, task, LawfulChain, alone, more, total, Answered}
use Rattle.tray.specs.Reductions.{Meaning, Reduction}
use Rattle.reducer.specs.Recorded.{reduction}
use Rattle.reducer.specs.Lent.{Lent}
use Rattle.reducer.specs.Outcome.{Outcome}
use Rattle.reducer.specs.Law.{Whole, Best, Turns, Kept, first, next, Keeps, Searched, Right}
use Rattle.reducer.proofs.Optimal.{Sound, best_unique, chain_held, few_chords, total_push, turns_chain, turns_chords, turns_sums}

pub chain_points : {f : ℕ → ℕ → Option ℕ} {t : ℕ} {ks es : List ℕ} {j : ℕ} → LawfulChain f t ks j es → length ks ≡ length es + 1
chain_points alone = refl
chain_points (more {ks} {es} {i} {j} {e} c up l) = let h = chain_points c in length_push ks j ∙ ap (λ x. x + 1) (h ∙ sym (length_push es e))

module _ {A : Type 0} (g : Ghosts A) (m : Meaning) (stroke : List Point) (tol : ℕ) (b a : Lent A) (x : Result (Answer A) Refusal)
    (within : (i j e : ℕ) → m stroke i j ≡ Some e → (1 ≤ i) × (i < j) × (j ≤ length stroke)) where
  abbrev r : Reduction
  r = reduction g m tol b a x

  abbrev k : Task A
  k = task g (m stroke) tol

  -- a chain of the best pair is a best chain, and the other way about
  best_to : (ks : List ℕ) (j : ℕ) (es : List ℕ) (c : ℕ) (t : A) → LawfulChain (m stroke) tol ks j es → length es ≡ c → total k es ≡ t → chains.Best k j c t → Best stroke r ks j es
  best_to ks j es c t l ec et h = record {
    lawful = l;
    fewest = λ ls fs y. omega (arith, h.fewest ls fs y);
    least = λ ls fs y e. subst (λ v. g.order v (total k fs) ≡ true) (sym et) (h.least ls fs y (e ∙ ec));
  }

  best_from : (ks : List ℕ) (j : ℕ) (es : List ℕ) → Best stroke r ks j es → chains.Best k j (length es) (total k es)
  best_from ks j es h = record {
    points = ks;
    errors = es;
    lawful = h.lawful;
    chords = refl;
    sums = refl;
    fewest = λ ls fs y. h.fewest ls fs y;
    least = λ ls fs y e. h.least ls fs y e;
  }

  module _ (ok : Sound k (length stroke)) where
    turns_to : (i j c : ℕ) (t : A) → chains.Best k j c t → chains.Turns k i j c t → Turns stroke r i j
    turns_to i j c t h u = record {
      points = u.best.points;
      errors = u.best.errors;
      error = u.chord;
      best = best_to _ i _ _ _ u.best.lawful u.best.chords u.best.sums u.best;
      chord = u.lawful;
      turned = best_to _ j _ c t (turns_chain k (length stroke) ok i j c t u) (turns_chords k (length stroke) ok i j c t u) (turns_sums k (length stroke) ok i j c t u) h;
    }

    turns_from : (i j c : ℕ) (t : A) → chains.Best k j c t → Turns stroke r i j → chains.Turns k i j c t
    turns_from i j c t h u =
        let same = best_unique k (length stroke) ok j _ _ _ _ h (best_from _ j _ u.turned) in
        record {
          chord = u.error;
          count = length u.errors;
          sum = total k u.errors;
          best = best_from _ i _ u.best;
          lawful = u.chord;
          chords = same.0 ∙ length_push u.errors u.error;
          sums = same.1 ∙ total_push k (length stroke) ok u.errors u.error;
        }

    pub kept_to : {ks : List ℕ} {j : ℕ} → chains.Kept k ks j → Kept stroke r ks j
    kept_to chains.first = first
    kept_to (chains.next {ks = ks} {i = i} {j = j} {m = c} {t = t} q h u f) = next (kept_to q) (turns_to i j c t h u) (λ p l v. f p l (turns_from p j c t h v))

    keeps : (count : ℕ) (t : A) (ks : List ℕ) → 1 ≤ count → Answered k (length stroke) (count - 1) t ks →
        Keeps stroke r ks count (λ es. g.order t (total k es) && g.order (total k es) t)
    keeps count t ks low q =
        let own = chain_held k (length stroke) ok q.lawful in
        let few = few_chords k (length stroke) ok q.lawful in
        let reflexive : k.order (total k q.errors) (total k q.errors) ≡ true = ⊎_elim (λ e. e) (λ e. e) (ok.laws.either own own few few) in
        let ab : k.order t (total k q.errors) ≡ true = subst (λ v. k.order v (total k q.errors) ≡ true) q.sums reflexive in
        let ba : k.order (total k q.errors) t ≡ true = subst (λ v. k.order (total k q.errors) v ≡ true) q.sums reflexive in
        let size = chain_points q.lawful in
        let chords = q.chords in
        record {
          kept_chain = kept_to q.kept;
          errors = q.errors;
          lawful = q.lawful;
          counted = omega arith;
          totalled = and_from _ _ ab ba;
          fewest = λ ls fs y. let s = chain_points y in let f = q.best.fewest ls fs y in omega arith;
          least = λ ls fs y e. let s = chain_points y in subst (λ v. k.order v (total k fs) ≡ true) (sym q.sums) (q.best.least ls fs y (omega arith));
        }

    pub answered_size : (count : ℕ) (t : A) (ks : List ℕ) → 1 ≤ count → Answered k (length stroke) (count - 1) t ks → length ks ≡ count
    answered_size count t ks low q = let size = chain_points q.lawful in let chords = q.chords in omega arith

module _ {A : Type 0} (g : Ghosts A) (m : Meaning) (stroke : List Point) (tol : ℕ) (b a : Lent A)
    (laws : Laws g.start g.value g.join g.order) (few : length stroke ≤ 512)
    (within : (i j e : ℕ) → m stroke i j ≡ Some e → (1 ≤ i) × (i < j) × (j ≤ length stroke)) where
  pub sound : tol ≤ limit → Sound (task g (m stroke) tol) (length stroke)
  sound h = record { laws = laws; few = few; within = within; tolerated = h }

  -- a refusal before the search
  unsearched : (e : Refusal) → (Searched stroke (reduction g m tol b a (Err e)) → ⊥) → Right stroke (reduction g m tol b a (Err e))
  unsearched e n = record { keeps = tt; truly_none = λ s y. absurd (n s); none_told = λ s y. absurd (n s); otherwise = λ s ks es y. absurd (n s) }

  pub right : (x : Result (Answer A) Refusal) → Outcome (task g (m stroke) tol) (length stroke) b a x → Right stroke (reduction g m tol b a x)
  right (Ok v) o =
      let q = keeps g m stroke tol b a (Ok v) within (sound o.searched.tolerated) v.count v.total (take v.count a.list) o.counted o.answered in
      record { keeps = q; truly_none = λ s y. absurd y; none_told = λ s y. y _ _ q.lawful; otherwise = λ s ks es y. inl tt }
  right (Err BareTray) o = unsearched BareTray (λ s. omega (arith, o.0, s.0))
  right (Err WideTolerance) o = unsearched WideTolerance (λ s. omega (arith, o.1, s.1))
  right (Err (ShortTable p)) o = unsearched (ShortTable p) (λ s. omega (arith, o.2, s.2))
  right (Err (NoWay p)) o =
      let none = λ (ks es : List ℕ) (y : Whole stroke (reduction g m tol b a (Err (NoWay p))) ks es). o.1 ks es y in
      record { keeps = tt; truly_none = λ s y. none; none_told = λ s y. refl; otherwise = λ s ks es y. absurd (none ks es y) }
  right (Err (ShortList p)) o =
      let ok = sound o.searched.tolerated in
      let e = answered_size g m stroke tol b a (Err (ShortList p)) within ok p o.total o.points o.counted o.answered in
      record {
        keeps = tt;
        truly_none = λ s y. absurd (omega (arith, y));
        none_told = λ s y. absurd (y _ _ o.answered.lawful);
        otherwise = λ s ks es y. inr (o.points, (kept_to g m stroke tol b a (Err (ShortList p)) within ok o.answered.kept, omega (arith, e, o.room)));
      }
  right (Err (OffSheet p)) o = absurd o
  right (Err (StoppedClock p)) o = absurd o
  right (Err (LongStroke p)) o = absurd o
  right (Err FullTray) o = absurd o
  right (Err (NoSuchPoint p)) o = absurd o
