-- The points that a table of predecessors leads back to.
--   trail   so many points, the last of them `last`
--   Led     each of them is in the table
use Rattle.std.specs.Prelude.{ℕ, zero, suc, ◌-◌, ◌≤◌, List, [], ◌∷◌, ◌++◌, length, slice_index}

abbrev pub trail : List ℕ → ℕ → ℕ → List ℕ
trail ps last zero = []
trail ps last (suc m) = trail ps (slice_index ps (last - 1)) m ++ (last ∷ [])

abbrev pub Led : List ℕ → ℕ → ℕ → Type 0
Led ps last zero = Unit {0}
Led ps last (suc m) = (1 ≤ last) × (last ≤ length ps) × Led ps (slice_index ps (last - 1)) m
