-- The laws of a kind whose totals are one number each, and are ordered by it.
use Rattle.std.specs.Prelude.{◌≡◌, ℕ, ◌≤◌, nat_le}
use Rattle.std.proofs.Common.{arith}
use Rattle.std.proofs.lemmas.Bool.{leb-true}
use Rattle.std.proofs.lemmas.Bool.Decides.{nat_tests}
use Rattle.total.specs.Laws.{Held, Laws}

-- equal numbers are of equal totals, the join is associative, the start neutral, and a join keeps the order
module _ {A : Type 0} (start : A) (value : ℕ → A) (join : A → A → A) (number : A → ℕ)
    (one : (a b : A) → number a ≡ number b → a ≡ b)
    (grouped : (a b c : A) → number (join (join a b) c) ≡ number (join a (join b c)))
    (neutral : (k : ℕ) (a : A) → Held start value join k a → k ≤ 511 → (number (join start a) ≡ number a) × (number (join a start) ≡ number a))
    (rises : (a b c : A) → number a ≤ number b → (number (join c a) ≤ number (join c b)) × (number (join a c) ≤ number (join b c))) where
  pub by_number : Laws start value join (λ a b. nat_le (number a) (number b))
  by_number = record {
    either = λ {k} {m} {a} {b} p q hk hm. grind (arith, nat_tests);
    same = λ {k} {m} {a} {b} p q hk hm ab ba. one a b (grind (arith, nat_tests));
    trans = λ {k} {m} {n} {a} {b} {c} p q r hk hm hn ab bc. grind (arith, nat_tests);
    assoc = λ {k} {m} {n} {a} {b} {c} p q r h. one _ _ (grouped a b c);
    left = λ {k} {a} p h. one _ _ (neutral k a p h).0;
    right = λ {k} {a} p h. one _ _ (neutral k a p h).1;
    before = λ {k} {m} {n} {a} {b} {c} p q r hk hm ab. let f = rises a b c (leb-true _ _ ab) in grind (arith, nat_tests);
    after = λ {k} {m} {n} {a} {b} {c} p q r hk hm ab. let f = rises a b c (leb-true _ _ ab) in grind (arith, nat_tests);
  }
