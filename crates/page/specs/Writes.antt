-- Bytes put into a page.
--   written at page bs   the page with the bytes bs from the place `at` on, and all other bytes as they were
use Rattle.std.specs.Prelude.{ℕ, ◌+◌, List, ◌++◌, length, take, drop}

abbrev pub written : ℕ → List ℕ → List ℕ → List ℕ
written at page bs = take at page ++ (bs ++ drop (at + length bs) page)
