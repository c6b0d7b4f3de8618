-- The order of pairs.
--   pair       a number of chords with their total
--   better     the first pair has fewer chords, or as many and a lesser total
use Rattle.std.specs.Prelude.{ℕ, Bool, not, ◌&&◌, ◌||◌, ◌==◌, nat_lt}
use Rattle.total.specs.declared.pair.Pair.{Pair}

abbrev pub pair : {A : Type 0} → ℕ → A → Pair A
pair m t = record { chords = m; total = t }

abbrev pub better : {A : Type 0} → (A → A → Bool) → Pair A → Pair A → Bool
better order a b = nat_lt a.chords b.chords || (a.chords == b.chords && not (order b.total a.total))
