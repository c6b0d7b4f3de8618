-- Orders whose codes are known.
use Rattle.std.proofs.Common.{◌≡◌, ℕ, true, false, leb, eqb, cond, refl, ap, ◌∙◌, sym, arith, rules, ◌&&◌, Ok, Err, Result, is_err}
use Rattle.std.proofs.lemmas.Bool.{eqb-true, eqb-false, cond_both, and_parts, leb-true}
use Rattle.page.specs.declared.kinds.Order.{Order}
use Rattle.page.specs.declared.order.MeasureKind.{MeasureKind}
use Rattle.page.specs.declared.order.MeasureKind.TheVariants.{Synchronous, Distance, Area}
use Rattle.page.specs.declared.order.TotalKind.{TotalKind}
use Rattle.page.specs.declared.order.TotalKind.TheVariants.{Sum, Worst, SumThenWorst}
use Rattle.page.specs.declared.order.KnownOrder.{KnownOrder}
use Rattle.page.specs.declared.order.UnknownCode.{UnknownCode}
use Rattle.page.specs.Strokes.{code, codes}
use Rattle.page.specs.Codes.{measure_code, total_code, coded, known_order, NamesOrder}

-- what a known code names has that code
named : {A : Type 0} (number : A → ℕ) (x y z : A) (c : ℕ) → number x ≡ 1 → number y ≡ 2 → number z ≡ 3 → code c ≡ true → number (cond (eqb c 1) x (cond (eqb c 2) y z)) ≡ c
named number x y z c p q r e =
    let both = and_parts (leb 1 c) (leb c 3) e in
    let low = leb-true 1 c both.0 in
    let high = leb-true c 3 both.1 in
    cond_both (eqb c 1) _ _ (λ k. number k ≡ c) (λ t. p ∙ sym (eqb-true c 1 t))
    (λ a. cond_both (eqb c 2) _ _ (λ k. number k ≡ c) (λ t. q ∙ sym (eqb-true c 2 t)) (λ b. omega (arith, eqb-false c 1 a, eqb-false c 2 b)))

-- a known order stands on the page as it was
pub coded_known : (o : Order) → codes o ≡ true → coded (known_order o) ≡ o
coded_known o e =
    let p = and_parts (code o.measure) (code o.total) e in
    let m = named measure_code Synchronous Distance Area o.measure refl refl refl p.0 in
    let t = named total_code Sum Worst SumThenWorst o.total refl refl refl p.1 in
    λ i. record { measure = m i; total = t i; span = o.span; tolerance = o.tolerance }

measure_known : (m : MeasureKind) → code (measure_code m) ≡ true
measure_known Synchronous = refl
measure_known Distance = refl
measure_known Area = refl

total_known : (t : TotalKind) → code (total_code t) ≡ true
total_known Sum = refl
total_known Worst = refl
total_known SumThenWorst = refl

-- where a conversion succeeds both codes are known
pub codes_known : (o : Order) (r : Result KnownOrder UnknownCode) → NamesOrder o r → is_err r ≡ false → codes o ≡ true
codes_known o (Ok k) h e =
    let m = ap (λ x. code x.measure) (sym h) ∙ measure_known k.measure in
    let t = ap (λ x. code x.total) (sym h) ∙ total_known k.total in
    λ i. m i && t i
codes_known o (Err e) h z = absurd (search (rules, z))
