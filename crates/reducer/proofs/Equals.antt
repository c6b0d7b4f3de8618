-- What a reduce says and leaves is what is computed.
use Rattle.std.proofs.Common.{◌≡◌, ℕ, ◌-◌, ◌<◌, ◌≤◌, true, false, ◌||◌, eqb, ltb, leb, ◌⊎◌, List, ◌++◌, length, get_or, take, drop, Ok, Err, Result, sym, refl, ap, ◌∙◌, subst, ⊎_elim, arith}
use Rattle.std.proofs.lemmas.List.{take-append-drop, length-map}
use Rattle.std.proofs.lemmas.Bool.Decides.{nat_tests}
use Rattle.std.proofs.lemmas.Bool.{cases_Bool, eq-eqb, le-leb, le-ltb, lt-leb, lt-ltb, cond-true, cond-false}
use Rattle.tray.specs.declared.causes.Refusal.{Refusal}
use Rattle.tray.specs.declared.causes.Refusal.TheVariants.{OffSheet, StoppedClock, LongStroke, FullTray, BareTray, NoSuchPoint, WideTolerance, ShortTable, NoWay, ShortList}
use Rattle.tray.specs.Refusals.{tells as says}
use Rattle.total.specs.Laws.{limit}
use Rattle.reducer.specs.declared.answer.Answer.{Answer}
use Rattle.reducer.specs.Chains as chains
use Rattle.reducer.specs.Chains.{Task, Answered, Entry, Cut}
use Rattle.reducer.specs.Scan.{reached}
use Rattle.reducer.specs.Lent.{Lent, lent}
use Rattle.reducer.specs.Outcome.{Searched, Outcome}
use Rattle.reducer.specs.Reduced.{entries, counts_of, preds_of, totals_of, chords, needed, best_total, kept_list, filled, done, refusing, searched, reduced}
use Rattle.reducer.proofs.Optimal.{Sound, entry_best, entry_cut, best_unique}
use Rattle.reducer.proofs.Unique.{kept_unique}
use Rattle.reducer.proofs.Walks.{walked}
use Rattle.reducer.proofs.Filled.{entries_length, filled_entries, counts_front, preds_front, totals_front}

not_bare : (n : ℕ) → 1 ≤ n → eqb n 0 ≡ false
not_bare n h = grind (arith, nat_tests)

roomy : (n c p t : ℕ) → (n ≤ c) × (n ≤ p) × (n ≤ t) → (ltb c n || (ltb p n || ltb t n)) ≡ false
roomy n c p t h = let a = h.0 in let b = h.1 in let d = h.2 in grind (arith, nat_tests)

tight : (n c p t : ℕ) → (c < n) ⊎ ((p < n) ⊎ (t < n)) → (ltb c n || (ltb p n || ltb t n)) ≡ true
tight n c p t h = grind (arith, nat_tests)

same_lent : {A : Type 0} (cs cs' ps ps' ls ls' : List ℕ) (ts ts' : List A) → cs ≡ cs' → ps ≡ ps' → ts ≡ ts' → ls ≡ ls' → lent cs ps ts ls ≡ lent cs' ps' ts' ls'
same_lent cs cs' ps ps' ls ls' ts ts' a b c d = cc

-- a list by its front and what follows it
parted : {X : Type 0} (n : ℕ) (xs ys zs : List X) → take n xs ≡ ys → drop n xs ≡ drop n zs → xs ≡ ys ++ drop n zs
parted n xs ys zs a b = sym (take-append-drop n xs) ∙ ap (λ r. r ++ drop n xs) a ∙ ap (λ r. ys ++ r) b

module _ {A : Type 0} (k : Task A) (n : ℕ) (ok : Sound k n) (b a : Lent A) (s : Searched k n b a)
    (long : (length a.counts ≡ length b.counts) × (length a.preds ≡ length b.preds) × (length a.totals ≡ length b.totals)) where
  room : (n ≤ length a.counts) × (n ≤ length a.preds) × (n ≤ length a.totals)
  room = let r = s.room in (omega (arith, r.0, long.0), omega (arith, r.1, long.1), omega (arith, r.2, long.2))

  tables : (ls : List ℕ) → a.list ≡ ls → a ≡ filled k n b ls
  tables ls e =
      same_lent _ _ _ _ _ _ _ _
      (parted n a.counts _ b.counts (counts_front k n ok a.counts a.preds a.totals room s.relaxed.filled) s.relaxed.counts_kept)
      (parted n a.preds _ b.preds (preds_front k n ok a.counts a.preds a.totals room s.relaxed.filled) s.relaxed.preds_kept)
      (parted n a.totals _ b.totals (totals_front k n ok a.counts a.preds a.totals room s.relaxed.filled) s.relaxed.totals_kept)
      e

  -- past the first checks
  passed : reduced k n b ≡ searched k n b
  passed =
      cond-false _ _ _ (not_bare n s.some)
      ∙ cond-false _ _ _ (le-ltb limit k.tolerance s.tolerated)
      ∙ cond-false _ _ _ (roomy n (length b.counts) (length b.preds) (length b.totals) s.room)

  last_entry : Entry k n (chords k n) (get_or (preds_of (entries k n)) (n - 1) 0) (best_total k n)
  last_entry = filled_entries k n ok n n s.some (omega arith)

  is_reached : (ks es : List ℕ) → chains.Chain k ks n es → reached n (chords k n) ≡ true
  is_reached ks es c = ⊎_elim (λ h. h) (λ h. absurd (entry_cut k n ok n _ _ _ last_entry h ks es c)) (cases_Bool (reached n (chords k n)))

  -- the answer is determined
  module _ (count : ℕ) (t : A) (ks : List ℕ) (low : 1 ≤ count) (q : Answered k n (count - 1) t ks) where
    flag : reached n (chords k n) ≡ true
    flag = is_reached ks q.errors q.lawful

    same_pair : (count - 1 ≡ chords k n) × (t ≡ best_total k n)
    same_pair = best_unique k n ok n _ _ _ _ q.best (entry_best k n ok n _ _ _ last_entry flag)

    same_count : count ≡ needed k n
    same_count = let e = same_pair.0 in omega arith

    same_list : ks ≡ kept_list k n
    same_list =
        let es = entries k n in
        let size : n ≤ length (preds_of es) = rw (length-map es (λ s. s.from), entries_length k n) (omega arith) in
        let w = walked k n ok (counts_of es) (preds_of es) (totals_of es) size (filled_entries k n ok n) n refl s.some flag in
        kept_unique k n ok refl q.kept w.1.kept

  -- no chain
  is_cut : Cut k n → reached n (chords k n) ≡ false
  is_cut c = ⊎_elim (λ h. let t = entry_best k n ok n _ _ _ last_entry h in absurd (c _ _ t.lawful)) (λ h. h) (cases_Bool (reached n (chords k n)))

same_answer : {A : Type 0} (c c' : ℕ) (t t' : A) (a a' : Lent A) → c ≡ c' → t ≡ t' → a ≡ a' → done (Ok (record { count = c; total = t })) a ≡ done (Ok (record { count = c'; total = t' })) a'
same_answer c c' t t' a a' p q r = cc

same_refusal : {A : Type 0} (number place place' : ℕ) (a a' : Lent A) → place ≡ place' → a ≡ a' → refusing number place a ≡ refusing number place' a'
same_refusal number place place' a a' p q = cc

module _ {A : Type 0} (k : Task A) (n : ℕ) (sound : k.tolerance ≤ limit → Sound k n) (b a : Lent A)
    (long : (length a.counts ≡ length b.counts) × (length a.preds ≡ length b.preds) × (length a.totals ≡ length b.totals)) where
  pub equals : (r : Result (Answer A) Refusal) → Outcome k n b a r → done (says r) a ≡ reduced k n b
  equals (Ok x) o =
      let ok = sound o.searched.tolerated in
      let s = o.searched in
      let count = same_count k n ok b a s long x.count x.total _ o.counted o.answered in
      let fits : leb (needed k n) (length b.list) ≡ true = le-leb _ _ (subst (λ m. m ≤ length b.list) count o.room) in
      let list : a.list ≡ kept_list k n ++ drop (needed k n) b.list =
      subst (λ m. a.list ≡ kept_list k n ++ drop m b.list) count
      (parted x.count a.list (kept_list k n) b.list (same_list k n ok b a s long x.count x.total _ o.counted o.answered) o.rest) in
      same_answer x.count (needed k n) x.total (best_total k n) a _ count (same_pair k n ok b a s long x.count x.total _ o.counted o.answered).1 (tables k n ok b a s long _ list)
      ∙ sym (passed k n ok b a s long ∙ cond-true _ _ _ (flag k n ok b a s long x.count x.total _ o.counted o.answered) ∙ cond-true _ _ _ fits)
  equals (Err BareTray) o = same_refusal 5 0 0 a b refl o.1 ∙ sym (cond-true _ _ _ (eq-eqb n 0 o.0))
  equals (Err WideTolerance) o =
      same_refusal 7 0 0 a b refl o.2 ∙ sym (cond-false _ _ _ (not_bare n o.0) ∙ cond-true _ _ _ (lt-ltb limit k.tolerance o.1))
  equals (Err (ShortTable p)) o =
      same_refusal 8 p n a b o.3 o.4
      ∙ sym (cond-false _ _ _ (not_bare n o.0) ∙ cond-false _ _ _ (le-ltb limit k.tolerance o.1) ∙ cond-true _ _ _ (tight n (length b.counts) (length b.preds) (length b.totals) o.2))
  equals (Err (NoWay p)) o =
      let ok = sound o.0.tolerated in
      let s = o.0 in
      same_refusal 9 p n a _ o.2 (tables k n ok b a s long b.list o.3) ∙ sym (passed k n ok b a s long ∙ cond-false _ _ _ (is_cut k n ok b a s long o.1))
  equals (Err (ShortList p)) o =
      let ok = sound o.searched.tolerated in
      let s = o.searched in
      let count = same_count k n ok b a s long p o.total o.points o.counted o.answered in
      let short : leb (needed k n) (length b.list) ≡ false = lt-leb _ _ (subst (λ m. length b.list < m) count o.room) in
      same_refusal 10 p (needed k n) a _ count (tables k n ok b a s long b.list o.same)
      ∙ sym (passed k n ok b a s long ∙ cond-true _ _ _ (flag k n ok b a s long p o.total o.points o.counted o.answered) ∙ cond-false _ _ _ short)
  equals (Err (OffSheet p)) o = absurd o
  equals (Err (StoppedClock p)) o = absurd o
  equals (Err (LongStroke p)) o = absurd o
  equals (Err FullTray) o = absurd o
  equals (Err (NoSuchPoint p)) o = absurd o
