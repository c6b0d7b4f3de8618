-- A stroke as a list of points, and the four limits that each stroke keeps.
--   at ps k         the point at the place k, counted from 0
--   numbered ps i   the point with the number i, counted from 1
--   OnSheet         places run from −4,096 to 4,095
--   Rising          times rise strictly
--   Short           no time is more than 8,191 ticks above the first
--   Lawful          these three, and at most 512 points
use Rattle.std.specs.Prelude.{ℕ, ◌+◌, ◌-◌, ◌<◌, ◌≤◌, List, length, pos, negsuc, ◌≤ℤ◌, slice_index_or}
use Rattle.tray.specs.declared.point.Point.{Point}
use Rattle.tray.specs.declared.point.Mark.TheVariants.{Plain}

-- what stands past the end of a list: no point of a stroke
abbrev pub origin : Point
origin = record { x = pos 0; y = pos 0; t = 0; mark = Plain }

abbrev pub at : List Point → ℕ → Point
at ps k = slice_index_or ps k origin

abbrev pub numbered : List Point → ℕ → Point
numbered ps i = at ps (i - 1)

-- each of the first n points lies on the sheet
abbrev pub OnSheet : List Point → ℕ → Type 0
OnSheet ps n = (k : ℕ) → k < n →
    (negsuc 4095 ≤ℤ (at ps k).x) × ((at ps k).x ≤ℤ pos 4095) × (negsuc 4095 ≤ℤ (at ps k).y) × ((at ps k).y ≤ℤ pos 4095)

-- among the first n points times rise strictly
abbrev pub Rising : List Point → ℕ → Type 0
Rising ps n = (i j : ℕ) → i < j → j < n → (at ps i).t < (at ps j).t

-- none of the first n points is more than 8191 ticks after the first
abbrev pub Short : List Point → ℕ → Type 0
Short ps n = (k : ℕ) → k < n → (at ps k).t ≤ (at ps 0).t + 8191

-- a stroke within the four limits
pub record Lawful (ps : List Point) : Type 0 where
  pub few : length ps ≤ 512
  pub placed : OnSheet ps (length ps)
  pub rising : Rising ps (length ps)
  pub short : Short ps (length ps)
