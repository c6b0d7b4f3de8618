-- What a reduce owes the stroke that it goes over, and what two reduces over one stroke owe each other.
--   Chain, Whole    a lawful chain, for this stroke and the measure and the tolerance of this reduce; one to the last point
--   Best            a lawful chain of the least number of chords, and of the least total among those of that number
--   Turns           a lawful chord makes a best chain of a best chain
--   Kept            the kept chain
--   Keeps           what an answer tells
--   Right           the reduce is right about its stroke
--   Wider           what a reduce owes to one with no greater tolerance
--   Law             it is right, and agrees with each other reduce that is right
use Rattle.std.specs.Prelude.{◌≡◌, ℕ, ◌<◌, ◌≤◌, Bool, true, ◌⊎◌, List, [], ◌∷◌, ◌++◌, length}
use Rattle.tray.specs.declared.point.Point.{Point}
use Rattle.tray.specs.Reductions.{Reduction, Reply, answered, refused}
use Rattle.total.specs.Laws.{limit}
use Rattle.reducer.specs.Chains.{LawfulChord, LawfulChain}

module _ (stroke : List Point) (r : Reduction) where
  abbrev pub Chain : List ℕ → ℕ → List ℕ → Type 0
  Chain ks j es = LawfulChain (r.meaning stroke) r.tolerance ks j es

  abbrev pub Whole : List ℕ → List ℕ → Type 0
  Whole ks es = Chain ks (length stroke) es

  pub record Best (ks : List ℕ) (j : ℕ) (es : List ℕ) : Type 0 where
    pub lawful : Chain ks j es
    pub fewest : (ls fs : List ℕ) → Chain ls j fs → length es ≤ length fs
    pub least : (ls fs : List ℕ) → Chain ls j fs → length fs ≡ length es → r.order es fs ≡ true

  -- the lawful chord from i to j makes of a best chain to i a best chain to j
  pub record Turns (i j : ℕ) : Type 0 where
    pub points : List ℕ
    pub errors : List ℕ
    pub error : ℕ
    pub best : Best points i errors
    pub chord : LawfulChord (r.meaning stroke) r.tolerance i j error
    pub turned : Best (points ++ (j ∷ [])) j (errors ++ (error ∷ []))

  -- 1 alone, or before j the kept chain to the earliest i whose lawful chord turns a best chain to i into one to j
  pub data Kept : List ℕ → ℕ → Type 0 where
    first : Kept (1 ∷ []) 1
    next : {ks : List ℕ} {i j : ℕ} → Kept ks i → Turns i j → ((h : ℕ) → h < i → Turns h j → ⊥) → Kept (ks ++ (j ∷ [])) j

  -- the numbers listed are the kept chain, a lawful one; the count is how many they are and the total told is theirs;
  -- every lawful chain has at least as many points, and one with as many has at least as great a total
  pub record Keeps (ks : List ℕ) (count : ℕ) (has_total : List ℕ → Bool) : Type 0 where
    pub kept_chain : Kept ks (length stroke)
    pub errors : List ℕ
    pub lawful : Whole ks errors
    pub counted : count ≡ length ks
    pub totalled : has_total errors ≡ true
    pub fewest : (ls fs : List ℕ) → Whole ls fs → count ≤ length ls
    pub least : (ls fs : List ℕ) → Whole ls fs → length ls ≡ count → r.order errors fs ≡ true

  abbrev pub KeepsIfAnswered : Reply → Type 0
  KeepsIfAnswered (answered ks count has_total) = Keeps ks count has_total
  KeepsIfAnswered (refused t) = Unit {0}

  abbrev pub IsAnswered : Reply → Type 0
  IsAnswered (answered ks count has_total) = Unit {0}
  IsAnswered (refused t) = ⊥

  abbrev pub SaysNoWay : Reply → Type 0
  SaysNoWay (answered ks count has_total) = ⊥
  SaysNoWay (refused t) = t.number ≡ 9

  -- the tray is not bare, the tolerance not wide, and no table short
  abbrev pub Searched : Type 0
  Searched = (1 ≤ length stroke) × (r.tolerance ≤ limit) × (length stroke ≤ r.table)

  -- its list is shorter than the kept chain
  abbrev pub ShortList : Type 0
  ShortList = (ks : List ℕ) × (Kept ks (length stroke) × (r.room < length ks))

  abbrev pub Chainless : Type 0
  Chainless = (ks es : List ℕ) → Whole ks es → ⊥

  pub record Right : Type 0 where
    -- an answer is the kept chain
    pub keeps : KeepsIfAnswered r.reply
    -- "no way" exactly where there is no lawful chain
    pub truly_none : Searched → SaysNoWay r.reply → Chainless
    pub none_told : Searched → Chainless → SaysNoWay r.reply
    -- else an answer, unless the list is short
    pub otherwise : Searched → (ks es : List ℕ) → Whole ks es → IsAnswered r.reply ⊎ ShortList

-- where both were answered, the second keeps at most as many points
abbrev pub KeepsNoMore : Reply → Reply → Type 0
KeepsNoMore (answered ks m t) (answered ls n u) = n ≤ m
KeepsNoMore (answered ks m t) (refused u) = Unit {0}
KeepsNoMore (refused t) s = Unit {0}

-- w has each lawful chain that r has, and keeps no more points
pub record Wider (stroke : List Point) (r w : Reduction) : Type 0 where
  pub still_lawful : (ks es : List ℕ) → Whole stroke r ks es → Whole stroke w ks es
  pub no_more : KeepsNoMore r.reply w.reply

-- the other reduce has the same measure over this stroke, and whatever kind of total
pub record Law (stroke : List Point) (r : Reduction) : Type 0 where
  pub right : Right stroke r
  pub narrower : (w : Reduction) → Right stroke w → ((i j : ℕ) → w.meaning stroke i j ≡ r.meaning stroke i j) → w.tolerance ≤ r.tolerance → Wider stroke w r
  pub wider : (w : Reduction) → Right stroke w → ((i j : ℕ) → r.meaning stroke i j ≡ w.meaning stroke i j) → r.tolerance ≤ w.tolerance → Wider stroke r w
