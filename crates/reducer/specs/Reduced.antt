-- What a reduce says and leaves, computed from what it was asked and lent.
--   entries    what the tables hold of the points 1 to n, point by point
--   filled     the tables with these entries, and as they were after them
--   needed     how many points the kept chain has
--   kept_list  the kept chain
--   Done       what a reduce says, and what the tables and the list hold then
--   reduced    the checks in their order, then the search
use Rattle.std.specs.Prelude.{ℕ, zero, suc, ◌+◌, ◌-◌, Bool, cond, ◌||◌, List, [], ◌∷◌, ◌++◌, map, length, drop, Ok, Err, Result, ◌==◌, nat_le, nat_lt, slice_index, slice_index_or}
use Rattle.refusal.specs.declared.Told.{Told}
use Rattle.refusal.specs.declared.Layer.TheVariants.{Tray}
use Rattle.refusal.specs.Said.{at_layer}
use Rattle.total.specs.Laws.{limit}
use Rattle.reducer.specs.declared.answer.Answer.{Answer}
use Rattle.reducer.specs.declared.step.Step.{Step}
use Rattle.reducer.specs.Chains.{Task}
use Rattle.reducer.specs.Scan.{scan, offer, entered, reached}
use Rattle.reducer.specs.Trail.{trail}
use Rattle.reducer.specs.Lent.{Lent, lent}

abbrev pub counts_of : {A : Type 0} → List (Step A) → List ℕ
counts_of es = map (λ s. s.pair.chords) es

abbrev pub preds_of : {A : Type 0} → List (Step A) → List ℕ
preds_of es = map (λ s. s.from) es

abbrev pub totals_of : {A : Type 0} → List (Step A) → List A
totals_of es = map (λ s. s.pair.total) es

pub record Done (A : Type 0) : Type 0 where
  pub says : Result (Answer A) Told
  pub leaves : Lent A

abbrev pub done : {A : Type 0} → Result (Answer A) Told → Lent A → Done A
done r a = record { says = r; leaves = a }

abbrev pub refusing : {A : Type 0} → ℕ → ℕ → Lent A → Done A
refusing number place a = done (Err (at_layer Tray number place)) a

abbrev pub short : {A : Type 0} → ℕ → Lent A → Bool
short n b = nat_lt (length b.counts) n || (nat_lt (length b.preds) n || nat_lt (length b.totals) n)

module _ {A : Type 0} (k : Task A) where
  -- the entry of the point j, from those of the points before it
  abbrev pub entry : ℕ → List (Step A) → Step A
  entry j es = entered k.start (scan k.order (offer k (counts_of es) (totals_of es) j) (j - 1))

  abbrev pub entries : ℕ → List (Step A)
  entries zero = []
  entries (suc j) = entries j ++ (entry (suc j) (entries j) ∷ [])

  module _ (n : ℕ) where
    abbrev pub chords : ℕ
    chords = slice_index (counts_of (entries n)) (n - 1)

    abbrev pub needed : ℕ
    needed = chords + 1

    abbrev pub best_total : A
    best_total = slice_index_or (totals_of (entries n)) (n - 1) k.start

    abbrev pub kept_list : List ℕ
    kept_list = trail (preds_of (entries n)) n needed

    abbrev pub filled : Lent A → List ℕ → Lent A
    filled b ls = lent (counts_of (entries n) ++ drop n b.counts) (preds_of (entries n) ++ drop n b.preds) (totals_of (entries n) ++ drop n b.totals) ls

    abbrev pub searched : Lent A → Done A
    searched b =
        cond (reached n chords)
        (cond (nat_le needed (length b.list))
        (done (Ok (record { count = needed; total = best_total })) (filled b (kept_list ++ drop needed b.list)))
        (refusing 10 needed (filled b b.list)))
        (refusing 9 n (filled b b.list))

    abbrev pub reduced : Lent A → Done A
    reduced b =
        cond (n == 0) (refusing 5 0 b)
        (cond (nat_lt limit k.tolerance) (refusing 7 0 b)
        (cond (short n b) (refusing 8 n b)
        (searched b)))
