-- What is lent to a reduce: three tables, and a list to fill.
--   Lent     what they hold
--   Room     each table has an entry for each of n points
--   Tight    one of them has not
use Rattle.std.specs.Prelude.{ℕ, ◌<◌, ◌≤◌, ◌⊎◌, List, length}

pub record Lent (A : Type 0) : Type 0 where
  pub counts : List ℕ
  pub preds : List ℕ
  pub totals : List A
  pub list : List ℕ

abbrev pub lent : {A : Type 0} → List ℕ → List ℕ → List A → List ℕ → Lent A
lent cs ps ts ls = record { counts = cs; preds = ps; totals = ts; list = ls }

module _ {A : Type 0} (n : ℕ) (b : Lent A) where
  abbrev pub Room : Type 0
  Room = (n ≤ length b.counts) × (n ≤ length b.preds) × (n ≤ length b.totals)

  abbrev pub Tight : Type 0
  Tight = (length b.counts < n) ⊎ ((length b.preds < n) ⊎ (length b.totals < n))
