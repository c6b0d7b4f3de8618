-- Chains of chords, their totals, and the best of them.
--   LawfulChord    the measure answers an error for the chord, and the tolerance allows it
--   LawfulChain    point numbers that rise from 1 to j, neighbours joined by lawful chords, with the errors of these in their order
--   Task           a kind of total, what a measure says of each chord of a stroke, and the tolerance
--   total          the start joined with the values of the errors, in their order
--   Best           the best pair of a point: its least number of chords, with the least total among lawful chains of that number
--   Turns          a lawful chord turns the best pair of a point into this pair
--   Cut            no lawful chain leads to the point
--   Entry          what the tables hold of a point
--   Kept           the kept chain to a point
use Rattle.std.specs.Prelude.{◌≡◌, ℕ, ◌+◌, ◌-◌, ◌<◌, ◌≤◌, Bool, true, List, [], ◌∷◌, ◌++◌, length, drop, Some, Option, slice_index, slice_index_or}
use mathlib.Core.List.{foldl}
use Rattle.total.specs.declared.total.Total.{Ghosts}

module _ (error : ℕ → ℕ → Option ℕ) (tolerance : ℕ) where
  abbrev pub LawfulChord : ℕ → ℕ → ℕ → Type 0
  LawfulChord i j e = (error i j ≡ Some e) × (e ≤ tolerance)

  pub data LawfulChain : List ℕ → ℕ → List ℕ → Type 0 where
    alone : LawfulChain (1 ∷ []) 1 []
    more : {ks es : List ℕ} {i j e : ℕ} → LawfulChain ks i es → i < j → LawfulChord i j e → LawfulChain (ks ++ (j ∷ [])) j (es ++ (e ∷ []))

pub record Task (A : Type 0) : Type 0 where
  pub start : A
  pub value : ℕ → A
  pub join : A → A → A
  pub order : A → A → Bool
  pub error : ℕ → ℕ → Option ℕ
  pub tolerance : ℕ

abbrev pub task : {A : Type 0} → Ghosts A → (ℕ → ℕ → Option ℕ) → ℕ → Task A
task g e t = record { start = g.start; value = g.value; join = g.join; order = g.order; error = e; tolerance = t }

module _ {A : Type 0} (k : Task A) where
  abbrev pub Lawful : ℕ → ℕ → ℕ → Type 0
  Lawful i j e = LawfulChord k.error k.tolerance i j e

  abbrev pub Chain : List ℕ → ℕ → List ℕ → Type 0
  Chain ks j es = LawfulChain k.error k.tolerance ks j es

  abbrev pub total : List ℕ → A
  total es = foldl (λ t e. k.join t (k.value e)) k.start es

  -- m chords, and the total t
  pub record Best (j m : ℕ) (t : A) : Type 0 where
    pub points : List ℕ
    pub errors : List ℕ
    pub lawful : Chain points j errors
    pub chords : length errors ≡ m
    pub sums : total errors ≡ t
    pub fewest : (ks es : List ℕ) → Chain ks j es → m ≤ length es
    pub least : (ks es : List ℕ) → Chain ks j es → length es ≡ m → k.order t (total es) ≡ true

  -- the chord from i to j makes m chords and the total t of the best pair of i
  pub record Turns (i j m : ℕ) (t : A) : Type 0 where
    pub chord : ℕ
    pub count : ℕ
    pub sum : A
    pub best : Best i count sum
    pub lawful : Lawful i j chord
    pub chords : m ≡ count + 1
    pub sums : t ≡ k.join sum (k.value chord)

  abbrev pub Cut : ℕ → Type 0
  Cut j = (ks es : List ℕ) → Chain ks j es → ⊥

  -- c chords, p the point before j, and the total t
  pub data Entry (j c p : ℕ) (t : A) : Type 0 where
    origin : j ≡ 1 → c ≡ 0 → p ≡ 0 → t ≡ k.start → Entry j c p t
    unreached : Cut j → c ≡ 0 → p ≡ 0 → t ≡ k.start → Entry j c p t
    reached : Best j c t → Turns p j c t → ((i : ℕ) → i < p → Turns i j c t → ⊥) → Entry j c p t

  -- the tables hold this of each point up to n
  abbrev pub Filled : ℕ → List ℕ → List ℕ → List A → Type 0
  Filled n cs ps ts = (j : ℕ) → 1 ≤ j → j ≤ n → Entry j (slice_index cs (j - 1)) (slice_index ps (j - 1)) (slice_index_or ts (j - 1) k.start)

  -- the tables are filled up to n, and as they were after it
  pub record Relaxed (n : ℕ) (cs ps : List ℕ) (ts : List A) (cs' ps' : List ℕ) (ts' : List A) : Type 0 where
    pub filled : Filled n cs' ps' ts'
    pub counts_kept : drop n cs' ≡ drop n cs
    pub preds_kept : drop n ps' ≡ drop n ps
    pub totals_kept : drop n ts' ≡ drop n ts

  -- 1 alone, or before j the kept chain to the earliest i whose lawful chord to j turns the best pair of i into that of j
  pub data Kept : List ℕ → ℕ → Type 0 where
    first : Kept (1 ∷ []) 1
    next : {ks : List ℕ} {i j m : ℕ} {t : A} → Kept ks i → Best j m t → Turns i j m t → ((h : ℕ) → h < i → Turns h j m t → ⊥) → Kept (ks ++ (j ∷ [])) j

  -- ks is the kept chain to j, a lawful chain of c chords and the total t, and no lawful chain to j is better
  pub record Answered (j c : ℕ) (t : A) (ks : List ℕ) : Type 0 where
    pub errors : List ℕ
    pub lawful : Chain ks j errors
    pub chords : length errors ≡ c
    pub sums : total errors ≡ t
    pub best : Best j c t
    pub kept : Kept ks j
