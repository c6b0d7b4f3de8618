-- The sum, then the worst, keeps the laws of a kind of total.
use Rattle.std.specs.Prelude.{◌≡◌, ℕ, ◌*◌, ◌≤◌}
use Rattle.std.proofs.Common.{arith}
use Rattle.std.proofs.lemmas.Bool.Decides.{nat_tests}
use Rattle.total.specs.Laws.{Held, none, one, both, Laws, limit}
use Rattle.total.specs.Kinds.{both_of, no_both, one_both, join_both, both_order}
use Rattle.total.specs.declared.sum_then_worst.SumThenWorst.{SumThenWorst}

fits : {k : ℕ} {a : SumThenWorst} → Held no_both one_both join_both k a → a.sum ≤ k * limit
fits none = omega arith
fits (one h) = omega arith
fits (both p q) = let hp = fits p in let hq = fits q in omega arith

same_both : (s s' w w' : ℕ) → s ≡ s' → w ≡ w' → both_of s w ≡ both_of s' w'
same_both s s' w w' p q = cc

pub both_laws : Laws no_both one_both join_both both_order
both_laws = record {
  either = λ {k} {m} {a} {b} p q hk hm. grind (arith, nat_tests);
  same = λ {k} {m} {a} {b} p q hk hm ab ba. same_both a.sum b.sum a.worst b.worst (grind (arith, nat_tests)) (grind (arith, nat_tests));
  trans = λ {k} {m} {n} {a} {b} {c} p q r hk hm hn ab bc. grind (arith, nat_tests);
  assoc = λ p q r h. same_both _ _ _ _ (omega arith) (omega arith);
  left = λ p h. let f = fits p in same_both _ _ _ _ (omega arith) (omega arith);
  right = λ p h. let f = fits p in same_both _ _ _ _ (omega arith) (omega arith);
  before = λ {k} {m} {n} {a} {b} {c} p q r hk hm ab. let fa = fits p in let fb = fits q in let fc = fits r in grind (arith, nat_tests);
  after = λ {k} {m} {n} {a} {b} {c} p q r hk hm ab. let fa = fits p in let fb = fits q in let fc = fits r in grind (arith, nat_tests);
}
