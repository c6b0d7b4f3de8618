-- Replies that no right reduce gives.
--   ShutOut    each kind of worthless reply, over one stroke
--   OneKept    a stroke has one kept chain to a point
use Rattle.std.specs.Prelude.{◌≡◌, ℕ, ◌<◌, ◌≤◌, Bool, false, List, [], ◌∷◌, length, Some, ◌≢◌}
use Rattle.refusal.specs.declared.Told.{Told}
use Rattle.tray.specs.declared.point.Point.{Point}
use Rattle.tray.specs.Reductions.{Reduction, answered, refused}
use Rattle.reducer.specs.Law.{Whole, Kept, Searched, Right}

pub record ShutOut (stroke : List Point) (r : Reduction) : Type 0 where
  -- more points than some lawful chain has, as where every point is kept
  pub too_many : (ks : List ℕ) (count : ℕ) (has : List ℕ → Bool) → r.reply ≡ answered ks count has →
      (ls fs : List ℕ) → Whole stroke r ls fs → length ls < count → Right stroke r → ⊥
  -- the two ends, where the chord between them is not lawful
  pub ends_unasked : (count : ℕ) (has : List ℕ → Bool) → r.reply ≡ answered (1 ∷ (length stroke ∷ [])) count has →
      ((e : ℕ) → r.meaning stroke 1 (length stroke) ≡ Some e → e ≤ r.tolerance → ⊥) → Right stroke r → ⊥
  -- a list that is not the kept chain of this stroke, as that of the stroke before a clear
  pub stale : (ks : List ℕ) (count : ℕ) (has : List ℕ → Bool) → r.reply ≡ answered ks count has →
      (Kept stroke r ks (length stroke) → ⊥) → Right stroke r → ⊥
  -- a count or a total that is not the chain's
  pub false_count : (ks : List ℕ) (count : ℕ) (has : List ℕ → Bool) → r.reply ≡ answered ks count has →
      (count ≢ length ks) → Right stroke r → ⊥
  pub false_total : (ks : List ℕ) (count : ℕ) (has : List ℕ → Bool) → r.reply ≡ answered ks count has →
      (es : List ℕ) → Whole stroke r ks es → has es ≡ false → Right stroke r → ⊥
  -- "no way" where there is one, and any refusal after the first checks where the list has room for the kept chain
  pub unsearched : (t : Told) → r.reply ≡ refused t → t.number ≡ 9 → Searched stroke r → (ks es : List ℕ) → Whole stroke r ks es → Right stroke r → ⊥
  pub refuses_all : (t : Told) → r.reply ≡ refused t → Searched stroke r → (ks es : List ℕ) → Whole stroke r ks es →
      ((ls : List ℕ) → Kept stroke r ls (length stroke) → length ls ≤ r.room) → Right stroke r → ⊥

abbrev pub ShutsOut : Type 0
ShutsOut = (stroke : List Point) (r : Reduction) → ShutOut stroke r

-- where the measure bars what is no chord
abbrev pub OneKept : Type 0
OneKept = (stroke : List Point) (r : Reduction) → ((i j e : ℕ) → r.meaning stroke i j ≡ Some e → (1 ≤ i) × (i < j) × (j ≤ length stroke)) →
    (ks ls : List ℕ) (j : ℕ) → Kept stroke r ks j → Kept stroke r ls j → ks ≡ ls
