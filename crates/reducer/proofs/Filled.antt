-- The computed entries are what the tables hold, and nothing else is.
use Rattle.std.proofs.Common.{◌≡◌, ℕ, zero, suc, ◌+◌, ◌-◌, ◌<◌, ◌≤◌, List, [], ◌∷◌, ◌++◌, map, length, get_or, take, sym, refl, ap, ◌∙◌, subst, ⊎_elim, arith}
use Rattle.std.proofs.lemmas.List.{length_push, length-map, map_push, get_or_push, get_or_append_left, ext_get_or, get_or-take, length-take-le}
use Rattle.std.proofs.lemmas.Bool.{cases_lt}
use Rattle.reducer.specs.declared.step.Step.{Step}
use Rattle.reducer.specs.Chains.{Task, Entry, Filled}
use Rattle.reducer.specs.Reduced.{entries, entry, counts_of, preds_of, totals_of}
use Rattle.reducer.proofs.Optimal.{Sound, next}
use Rattle.reducer.proofs.Unique.{entry_unique}

-- the last of a list with one more at its end, and the others, seen through a function
module _ {X Y : Type 0} (f : X → Y) (xs : List X) (x : X) (d : Y) where
  old : (i : ℕ) → i < length xs → get_or (map f (xs ++ (x ∷ []))) i d ≡ get_or (map f xs) i d
  old i h = ap (λ ys. get_or ys i d) (map_push f xs x) ∙ get_or_append_left (map f xs) (f x ∷ []) d i (rw length-map h)

  newest : (i : ℕ) → length xs ≡ i → get_or (map f (xs ++ (x ∷ []))) i d ≡ f x
  newest i h = ap (λ ys. get_or ys i d) (map_push f xs x) ∙ get_or_push (map f xs) (f x) d i (length-map xs f ∙ h)

module _ {A : Type 0} (k : Task A) where
  pub entries_length : (n : ℕ) → length (entries k n) ≡ n
  entries_length zero = refl
  entries_length (suc n) = length_push (entries k n) _ ∙ ap (λ x. x + 1) (entries_length n) ∙ omega arith

  module _ (n : ℕ) (ok : Sound k n) where
    entry_is : (j : ℕ) → Filled k j (counts_of (entries k j)) (preds_of (entries k j)) (totals_of (entries k j)) →
        let s = entry k (suc j) (entries k j) in Entry k (suc j) s.pair.chords s.from s.pair.total
    entry_is j h =
        next k n ok (counts_of (entries k j)) (preds_of (entries k j)) (totals_of (entries k j)) (suc j) (omega arith)
        (let P : ℕ → Type 0 = λ m. Filled k m (counts_of (entries k j)) (preds_of (entries k j)) (totals_of (entries k j)) in subst P (omega arith) h)

    pub filled_entries : (j : ℕ) → Filled k j (counts_of (entries k j)) (preds_of (entries k j)) (totals_of (entries k j))
    filled_entries zero i a b = absurd (omega arith)
    filled_entries (suc j) i a b =
        let es = entries k j in
        let s = entry k (suc j) es in
        let size = entries_length j in
        ⊎_elim
        (λ (h : i < suc j).
        let l : i - 1 < length es = omega arith in
        rw (old (λ (s : Step A). s.pair.chords) es s 0 (i - 1) l, old (λ (s : Step A). s.from) es s 0 (i - 1) l, old (λ (s : Step A). s.pair.total) es s k.start (i - 1) l) (filled_entries j i a (omega arith)))
        (λ (h : suc j ≤ i).
        let l : length es ≡ i - 1 = omega arith in
        let e : suc j ≡ i = omega arith in
        rw (newest (λ (s : Step A). s.pair.chords) es s 0 (i - 1) l, newest (λ (s : Step A). s.from) es s 0 (i - 1) l, newest (λ (s : Step A). s.pair.total) es s k.start (i - 1) l)
        (let P : ℕ → Type 0 = λ m. Entry k m s.pair.chords s.from s.pair.total in subst P e (entry_is j (filled_entries j))))
        (cases_lt i (suc j))

    -- two fillings of the tables have the same front
    module _ (cs ps : List ℕ) (ts : List A) (room : (n ≤ length cs) × (n ≤ length ps) × (n ≤ length ts)) (fill : Filled k n cs ps ts) where
      same : (i : ℕ) → i < n → (get_or cs i 0 ≡ get_or (counts_of (entries k n)) i 0) × (get_or ps i 0 ≡ get_or (preds_of (entries k n)) i 0) × (get_or ts i k.start ≡ get_or (totals_of (entries k n)) i k.start)
      same i h =
          let e : i + 1 - 1 ≡ i = omega arith in
          let u = entry_unique k n ok (i + 1) _ _ _ _ _ _ (fill (i + 1) (omega arith) (omega arith)) (filled_entries n (i + 1) (omega arith) (omega arith)) in
          let P : ℕ → Type 0 = λ m. (get_or cs m 0 ≡ get_or (counts_of (entries k n)) m 0) × (get_or ps m 0 ≡ get_or (preds_of (entries k n)) m 0) × (get_or ts m k.start ≡ get_or (totals_of (entries k n)) m k.start) in
          subst P e u

      front : {X : Type 0} (d : X) (xs : List X) (f : Step A → X) → n ≤ length xs → ((i : ℕ) → i < n → get_or xs i d ≡ get_or (map f (entries k n)) i d) → take n xs ≡ map f (entries k n)
      front d xs f l h =
          let size : length (take n xs) ≡ n = length-take-le n xs l in
          ext_get_or d (take n xs) (map f (entries k n)) (size ∙ sym (length-map (entries k n) f ∙ entries_length n))
          (λ i b. let m : i < n = omega arith in get_or-take n xs i d m ∙ h i m)

      pub counts_front : take n cs ≡ counts_of (entries k n)
      counts_front = front 0 cs (λ s. s.pair.chords) room.0 (λ i h. (same i h).0)

      pub preds_front : take n ps ≡ preds_of (entries k n)
      preds_front = front 0 ps (λ s. s.from) room.1 (λ i h. (same i h).1)

      pub totals_front : take n ts ≡ totals_of (entries k n)
      totals_front = front k.start ts (λ s. s.pair.total) room.2 (λ i h. (same i h).2)
