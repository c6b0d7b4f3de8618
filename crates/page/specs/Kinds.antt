-- The numbers of the kinds of record.
--   kind_number     the number of a kind
--   NamesKind n r   what a conversion from the number n answers: the kind with that number, or the number, which no kind has
use Rattle.std.specs.Prelude.{◌≡◌, ℕ, ◌<◌, ◌⊎◌, Result, MatchResult}
use Rattle.page.specs.declared.record_kind.Kind.{Kind}
use Rattle.page.specs.declared.record_kind.Kind.TheVariants.{Start, Plain, Corner, Order, Kept, Refused}
use Rattle.page.specs.declared.order.UnknownCode.{UnknownCode}

abbrev pub kind_number : Kind → ℕ
kind_number Start = 1
kind_number Plain = 2
kind_number Corner = 3
kind_number Order = 4
kind_number Kept = 5
kind_number Refused = 6

abbrev pub NamesKind : ℕ → Result Kind UnknownCode → Type 0
NamesKind n r = MatchResult r (λ k. kind_number k ≡ n) (λ e. (e.0 ≡ n) × ((n < 1) ⊎ (6 < n)))
