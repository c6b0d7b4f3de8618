-- What the codes of an order name.
use Rattle.std.proofs.Common.{◌≡◌, ℕ, true, false, cond, eqb, ◌∙◌, arith}
use Rattle.std.proofs.lemmas.Bool.Decides.{nat_tests}
use Rattle.std.proofs.lemmas.Bool.{cond-true, cond-false}

is : (c n : ℕ) → c ≡ n → eqb c n ≡ true
is c n e = grind (arith, nat_tests)

is_not : (c n : ℕ) → (c ≡ n → ⊥) → eqb c n ≡ false
is_not c n e = grind (arith, nat_tests)

-- the first, the second or the third of three, by a code
module _ {X : Type 0} (x y z : X) (c : ℕ) where
  pub by_1 : c ≡ 1 → cond (eqb c 1) x (cond (eqb c 2) y z) ≡ x
  by_1 e = cond-true _ _ _ (is c 1 e)

  pub by_2 : c ≡ 2 → cond (eqb c 1) x (cond (eqb c 2) y z) ≡ y
  by_2 e = cond-false _ _ _ (is_not c 1 (λ f. omega arith)) ∙ cond-true _ _ _ (is c 2 e)

  pub by_rest : (c ≡ 1 → ⊥) → (c ≡ 2 → ⊥) → cond (eqb c 1) x (cond (eqb c 2) y z) ≡ z
  by_rest e f = cond-false _ _ _ (is_not c 1 e) ∙ cond-false _ _ _ (is_not c 2 f)
