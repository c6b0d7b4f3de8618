-- What the codes of an order name.
--   measure_code    the code of a measure
--   total_code      the code of a kind of total
--   measure_named   the measure that a known code names
--   total_named     the kind of total that a known code names
--   coded           a known order as it stands on the page
--   known_order     the order whose codes are known
--   NamesMeasure, NamesTotal, NamesOrder
--                   what a conversion from codes answers: what they name, or the first code that names nothing
use Rattle.std.specs.Prelude.{◌≡◌, ℕ, cond, false, ◌==◌, Result, MatchResult}
use Rattle.page.specs.declared.kinds.Order.{Order}
use Rattle.page.specs.declared.order.MeasureKind.{MeasureKind}
use Rattle.page.specs.declared.order.MeasureKind.TheVariants.{Synchronous, Distance, Area}
use Rattle.page.specs.declared.order.TotalKind.{TotalKind}
use Rattle.page.specs.declared.order.TotalKind.TheVariants.{Sum, Worst, SumThenWorst}
use Rattle.page.specs.declared.order.KnownOrder.{KnownOrder}
use Rattle.page.specs.declared.order.UnknownCode.{UnknownCode}
use Rattle.page.specs.Strokes.{code}

abbrev pub measure_code : MeasureKind → ℕ
measure_code Synchronous = 1
measure_code Distance = 2
measure_code Area = 3

abbrev pub total_code : TotalKind → ℕ
total_code Sum = 1
total_code Worst = 2
total_code SumThenWorst = 3

abbrev pub measure_named : ℕ → MeasureKind
measure_named c = cond (c == 1) Synchronous (cond (c == 2) Distance Area)

abbrev pub total_named : ℕ → TotalKind
total_named c = cond (c == 1) Sum (cond (c == 2) Worst SumThenWorst)

abbrev pub coded : KnownOrder → Order
coded k = record { measure = measure_code k.measure; total = total_code k.total; span = k.span; tolerance = k.tolerance }

abbrev pub known_order : Order → KnownOrder
known_order o = record { measure = measure_named o.measure; total = total_named o.total; span = o.span; tolerance = o.tolerance }

abbrev pub NamesMeasure : ℕ → Result MeasureKind UnknownCode → Type 0
NamesMeasure c r = MatchResult r (λ k. measure_code k ≡ c) (λ e. (e.0 ≡ c) × (code c ≡ false))

abbrev pub NamesTotal : ℕ → Result TotalKind UnknownCode → Type 0
NamesTotal c r = MatchResult r (λ k. total_code k ≡ c) (λ e. (e.0 ≡ c) × (code c ≡ false))

abbrev pub NamesOrder : Order → Result KnownOrder UnknownCode → Type 0
NamesOrder o r = MatchResult r (λ k. coded k ≡ o) (λ e. (e.0 ≡ cond (code o.measure) o.total o.measure) × (code e.0 ≡ false))
