-- What is computed keeps the law.
use Rattle.std.proofs.Common.{◌≡◌, ℕ, ◌-◌, ◌<◌, ◌≤◌, true, false, ◌||◌, eqb, ltb, leb, ◌⊎◌, List, ◌++◌, map, length, get_or, drop, Ok, Err, Result, sym, refl, ◌∙◌, subst, inl, inr, arith}
use Rattle.std.proofs.lemmas.List.{drop_at, take_at, get_or_append_left, length-map}
use Rattle.std.proofs.lemmas.Bool.Decides.{nat_tests}
use Rattle.std.proofs.lemmas.Bool.{cases_Bool, eqb-true, leb-true, leb-false, ltb-true, ltb-false, cond-true, cond-false}
use Rattle.tray.specs.declared.causes.Refusal.{Refusal}
use Rattle.tray.specs.declared.causes.Refusal.TheVariants.{BareTray, WideTolerance, ShortTable, NoWay, ShortList}
use Rattle.tray.specs.Refusals.{tells as says}
use Rattle.total.specs.Laws.{limit}
use Rattle.reducer.specs.declared.answer.Answer.{Answer}
use Rattle.reducer.specs.declared.step.Step.{Step}
use Rattle.reducer.specs.Chains.{Task, Relaxed, Answered}
use Rattle.reducer.specs.Scan.{reached}
use Rattle.reducer.specs.Lent.{Lent, Room}
use Rattle.reducer.specs.Outcome.{Searched, Outcome}
use Rattle.reducer.specs.Reduced.{entries, counts_of, preds_of, totals_of, chords, needed, best_total, kept_list, filled, short, done, searched, reduced, Done}
use Rattle.reducer.proofs.Optimal.{Sound, entry_cut}
use Rattle.reducer.proofs.Walks.{walked}
use Rattle.reducer.proofs.Rights.{chain_points}
use Rattle.reducer.proofs.Filled.{entries_length, filled_entries}

-- a reduce that says and leaves what is computed, with its outcome
pub record Computed {A : Type 0} (k : Task A) (n : ℕ) (b : Lent A) (d : Done A) : Type 0 where
  pub result : Result (Answer A) Refusal
  pub left : Lent A
  pub is : done (says result) left ≡ d
  pub outcome : Outcome k n b left result

pub untight : (n c p t : ℕ) → (ltb c n || (ltb p n || ltb t n)) ≡ false → (n ≤ c) × (n ≤ p) × (n ≤ t)
untight n c p t h = (grind (arith, nat_tests), grind (arith, nat_tests), grind (arith, nat_tests))

pub tighten : (n c p t : ℕ) → (ltb c n || (ltb p n || ltb t n)) ≡ true → (c < n) ⊎ ((p < n) ⊎ (t < n))
tighten n c p t h = grind (arith, nat_tests)

some : (n : ℕ) → eqb n 0 ≡ false → 1 ≤ n
some n h = grind (arith, nat_tests)

module _ {A : Type 0} (k : Task A) (n : ℕ) (ok : Sound k n) (b : Lent A) (low : 1 ≤ n) (room : Room n b) (ls : List ℕ) where
  abbrev es : List (Step A)
  es = entries k n

  front : {X : Type 0} (xs : List X) (d : X) (f : Step A → X) (i : ℕ) → i < n → get_or (map f es ++ drop n xs) i d ≡ get_or (map f es) i d
  front xs d f i h = get_or_append_left (map f es) (drop n xs) d i (rw (length-map es f, entries_length k n) h)

  rest : {X : Type 0} (xs : List X) (f : Step A → X) → drop n (map f es ++ drop n xs) ≡ drop n xs
  rest xs f = drop_at (map f es) (drop n xs) n (length-map es f ∙ entries_length k n)

  relaxed : Relaxed k n b.counts b.preds b.totals (filled k n b ls).counts (filled k n b ls).preds (filled k n b ls).totals
  relaxed = record {
    filled = λ j a h. let i : j - 1 < n = omega arith in
        rw (front b.counts 0 (λ s. s.pair.chords) (j - 1) i, front b.preds 0 (λ s. s.from) (j - 1) i, front b.totals k.start (λ s. s.pair.total) (j - 1) i)
        (filled_entries k n ok n j a h);
    counts_kept = rest b.counts (λ s. s.pair.chords);
    preds_kept = rest b.preds (λ s. s.from);
    totals_kept = rest b.totals (λ s. s.pair.total);
  }

  has_searched : Searched k n b (filled k n b ls)
  has_searched = record { some = low; tolerated = ok.tolerated; room = room; relaxed = relaxed }

module _ {A : Type 0} (k : Task A) (n : ℕ) (ok : Sound k n) (b : Lent A) (low : 1 ≤ n) (room : Room n b) where
  walk_back : reached n (chords k n) ≡ true → Answered k n (needed k n - 1) (best_total k n) (kept_list k n)
  walk_back f =
      let es = entries k n in
      let size : n ≤ length (preds_of es) = rw (length-map es (λ s. s.from), entries_length k n) (omega arith) in
      (walked k n ok (counts_of es) (preds_of es) (totals_of es) size (filled_entries k n ok n) n refl low f).1

  kept_length : (f : reached n (chords k n) ≡ true) → length (kept_list k n) ≡ needed k n
  kept_length f = let q = walk_back f in let p = chain_points q.lawful in let c = q.chords in omega arith

  computed_search : Computed k n b (searched k n b)
  computed_search = elim (cases_Bool (reached n (chords k n))) [
    | inl f ↦ elim (cases_Bool (leb (needed k n) (length b.list))) [
      | inl g ↦ record {
        result = Ok (record { count = needed k n; total = best_total k n });
        left = filled k n b (kept_list k n ++ drop (needed k n) b.list);
        is = sym (cond-true _ _ _ f ∙ cond-true _ _ _ g);
        outcome = record {
          searched = has_searched k n ok b low room _;
          counted = omega arith;
          room = leb-true _ _ g;
          answered = subst (λ ks. Answered k n (needed k n - 1) (best_total k n) ks) (sym (take_at (kept_list k n) (drop (needed k n) b.list) (needed k n) (kept_length f))) (walk_back f);
          rest = drop_at (kept_list k n) (drop (needed k n) b.list) (needed k n) (kept_length f);
        };
      }
      | inr g ↦ record {
        result = Err (ShortList (needed k n));
        left = filled k n b b.list;
        is = sym (cond-true _ _ _ f ∙ cond-false _ _ _ g);
        outcome = record {
          searched = has_searched k n ok b low room _;
          counted = omega arith;
          total = best_total k n;
          points = kept_list k n;
          answered = walk_back f;
          room = leb-false _ _ g;
          same = refl;
        };
      }
    ]
    | inr f ↦ record {
      result = Err (NoWay n);
      left = filled k n b b.list;
      is = sym (cond-false _ _ _ f);
      outcome = (has_searched k n ok b low room _, entry_cut k n ok n _ _ _ (filled_entries k n ok n n low (omega arith)) f, refl, refl);
    }
  ]

pub computed : {A : Type 0} (k : Task A) (n : ℕ) (sound : k.tolerance ≤ limit → Sound k n) (b : Lent A) → Computed k n b (reduced k n b)
computed k n sound b = elim (cases_Bool (eqb n 0)) [
  | inl e ↦ record { result = Err BareTray; left = b; is = sym (cond-true _ _ _ e); outcome = (eqb-true n 0 e, refl) }
  | inr e ↦ elim (cases_Bool (ltb limit k.tolerance)) [
    | inl w ↦ record { result = Err WideTolerance; left = b; is = sym (cond-false _ _ _ e ∙ cond-true _ _ _ w); outcome = (some n e, ltb-true _ _ w, refl) }
    | inr w ↦ elim (cases_Bool (short n b)) [
      | inl t ↦ record {
        result = Err (ShortTable n);
        left = b;
        is = sym (cond-false _ _ _ e ∙ cond-false _ _ _ w ∙ cond-true _ _ _ t);
        outcome = (some n e, ltb-false _ _ w, tighten n _ _ _ t, refl, refl);
      }
      | inr t ↦
          let q = computed_search k n (sound (ltb-false _ _ w)) b (some n e) (untight n _ _ _ t) in
          record { result = q.result; left = q.left; is = q.is ∙ sym (cond-false _ _ _ e ∙ cond-false _ _ _ w ∙ cond-false _ _ _ t); outcome = q.outcome }
    ]
  ]
]
