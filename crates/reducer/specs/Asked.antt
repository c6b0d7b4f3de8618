-- What the code holds of a call: what is asked, and what is lent.
--   asked         the task of a search, by a kind of total and the meaning of its measure
--   lent_with     what the tables hold, and this list
--   HasRoom       each table has an entry for each of n points
--   SameTables    the same tables, each as long as it was
use Rattle.std.specs.Prelude.{◌≡◌, ℕ, List, [], length, Option}
use Rattle.tray.specs.declared.point.Point.{Point}
use Rattle.tray.specs.Trays.{stroke as stroke_of}
use Rattle.total.specs.declared.total.Total.{Ghosts}
use Rattle.reducer.specs.declared.search.Search.{Search}
use Rattle.reducer.specs.declared.tables.Tables.{Tables}
use Rattle.reducer.specs.Chains.{Task, task}
use Rattle.reducer.specs.Lent.{Lent, lent, Room}

abbrev pub asked : {A M : Type 0} → Ghosts A → (M → List Point → ℕ → ℕ → Option ℕ) → Search M → Task A
asked g meaning s = task g (meaning s.measure.now (stroke_of s.stroke.now)) s.tolerance

abbrev pub lent_with : {A : Type 0} → Tables A → List ℕ → Lent A
lent_with t list = lent t.counts.now t.preds.now t.totals.now list

abbrev pub HasRoom : {A : Type 0} → ℕ → Tables A → Type 0
HasRoom n t = Room n (lent_with t [])

module _ {A : Type 0} (b a : Tables A) where
  pub record SameTables : Type 0 where
    pub counts : a.counts.ghost_name ≡ b.counts.ghost_name
    pub preds : a.preds.ghost_name ≡ b.preds.ghost_name
    pub totals : a.totals.ghost_name ≡ b.totals.ghost_name
    pub long_counts : length a.counts.now ≡ length b.counts.now
    pub long_preds : length a.preds.now ≡ length b.preds.now
    pub long_totals : length a.totals.now ≡ length b.totals.now
