-- The search for the best chord into a point, from the tables of the points before it.
--   choose    the better of what was found and what one point offers; the earlier, where neither is better
--   scan      the best of what the points 1 to i offer
--   no_step   what the tables hold of a point that no chord leads to
--   entered   what the tables hold of a point into which this was found
--   held      the best pair of a point, where the tables say that a chain leads to it
--   offer     what the tables and the chord from i to j offer to j
use Rattle.std.specs.Prelude.{ℕ, zero, suc, ◌+◌, ◌-◌, Bool, cond, ◌||◌, List, Some, None, Option, ◌==◌, nat_le, nat_lt, slice_index, slice_index_or}
use Rattle.total.specs.declared.pair.Pair.{Pair}
use Rattle.total.specs.Pairs.{pair, better}
use Rattle.reducer.specs.Chains.{Task}
use Rattle.reducer.specs.declared.step.Step.{Step}

abbrev pub step : {A : Type 0} → ℕ → Pair A → Step A
step i q = record { from = i; pair = q }

abbrev pub choose : {A : Type 0} → (A → A → Bool) → Option (Step A) → ℕ → Option (Pair A) → Option (Step A)
choose order s i None = s
choose order None i (Some q) = Some (step i q)
choose order (Some s) i (Some q) = cond (better order q s.pair) (Some (step i q)) (Some s)

abbrev pub scan : {A : Type 0} → (A → A → Bool) → (ℕ → Option (Pair A)) → ℕ → Option (Step A)
scan order f zero = None
scan order f (suc i) = choose order (scan order f i) (suc i) (f (suc i))

abbrev pub no_step : {A : Type 0} → A → Step A
no_step start = step 0 (pair 0 start)

abbrev pub entered : {A : Type 0} → A → Option (Step A) → Step A
entered start None = no_step start
entered start (Some s) = s

-- the point with the number i is the first, or its entry has c chords
abbrev pub reached : ℕ → ℕ → Bool
reached i c = i == 1 || nat_lt 0 c

abbrev pub held : {A : Type 0} → A → List ℕ → List A → ℕ → Option (Pair A)
held start cs ts i = cond (reached i (slice_index cs (i - 1))) (Some (pair (slice_index cs (i - 1)) (slice_index_or ts (i - 1) start))) None

module _ {A : Type 0} (k : Task A) where
  -- a chord with this answer, taken after m chords with the total t
  abbrev pub extend : ℕ → A → Option ℕ → Option (Pair A)
  extend m t None = None
  extend m t (Some e) = cond (nat_le e k.tolerance) (Some (pair (m + 1) (k.join t (k.value e)))) None

  abbrev pub offer : List ℕ → List A → ℕ → ℕ → Option (Pair A)
  offer cs ts j i = cond (reached i (slice_index cs (i - 1))) (extend (slice_index cs (i - 1)) (slice_index_or ts (i - 1) k.start) (k.error i j)) None
