-- A reduce as a history has it: what it asked, and what it told.
--   Meaning     what a measure means: its answer for each stroke and each two point numbers
--   Reply       what a reduce told
--   Reduction   its measure, its kind of total as the order that it gives to lists of errors, its tolerance,
--               how many entries the shortest of its tables and its list have, and its reply
use Rattle.std.specs.Prelude.{ℕ, Bool, List, Option}
use Rattle.refusal.specs.declared.Told.{Told}
use Rattle.tray.specs.declared.point.Point.{Point}

abbrev pub Meaning : Type 0
Meaning = List Point → ℕ → ℕ → Option ℕ

pub data Reply : Type 0 where
  -- the numbers that its list begins with, as many as the count; the count; of which lists of errors its total is the total
  answered : List ℕ → ℕ → (List ℕ → Bool) → Reply
  refused : Told → Reply

pub record Reduction : Type 0 where
  pub meaning : Meaning
  pub order : List ℕ → List ℕ → Bool
  pub tolerance : ℕ
  pub table : ℕ
  pub room : ℕ
  pub reply : Reply
