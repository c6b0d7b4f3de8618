-- The least of the numbers that serve.
--   Least Serves e          e serves, and no lesser number does
--   AnswersLeast Serves o   where o is an answer, it is the least that serves
use Rattle.std.specs.Prelude.{◌≡◌, ℕ, ◌≤◌, Some, Option}

pub record Least (Serves : ℕ → Type 0) (e : ℕ) : Type 0 where
  pub serves : Serves e
  pub no_lesser : (f : ℕ) → Serves f → e ≤ f

abbrev pub AnswersLeast : (ℕ → Type 0) → Option ℕ → Type 0
AnswersLeast Serves o = (e : ℕ) → o ≡ Some e → Least Serves e
