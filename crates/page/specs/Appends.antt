-- What is appended to a page, and what is refused.
--   Outcome           an answer, with the bytes used and the page after it
--   outcome           the outcome of a call
--   refuses           nothing changes, and the bytes used are the place told
--   appends           the bytes follow those used, if the page has room for them
--   appends_stroke    a stroke is appended whole, if its codes are known
--   appends_kept      a record of kept points is appended; no page has room for one whose length its field cannot say
--   appends_refused   a record of a refusal is appended
--   OneMore           where the bytes used before read as strokes, those used now read as these and one more
use Rattle.std.specs.Prelude.{◌≡◌, ℕ, ◌+◌, cond, List, [], ◌∷◌, ◌++◌, length, take, Ok, Err, Result, nat_le}
use Rattle.refusal.specs.declared.Told.{Told}
use Rattle.refusal.specs.Said.{said}
use Rattle.page.specs.declared.fault.PageCause.{PageCause}
use Rattle.page.specs.declared.fault.PageCause.TheVariants.{WrongCode, ShortPage}
use Rattle.page.specs.declared.fault.PageFault.{PageFault}
use Rattle.page.specs.declared.kinds.Totals.{Totals}
use Rattle.page.specs.Faults.{told_at, told}
use Rattle.page.specs.Strokes.{Stroke, stroke_bytes, codes}
use Rattle.page.specs.Answers.{kept_bytes, kept_fits, refused_bytes}
use Rattle.page.specs.Steps.{accepted, reading}
use Rattle.page.specs.Writes.{written}

pub record Outcome : Type 0 where
  pub answer : Result ℕ Told
  pub count : ℕ
  pub bytes : List ℕ

abbrev pub outcome : Result ℕ PageFault → ℕ → List ℕ → Outcome
outcome r n bs = record { answer = said told r; count = n; bytes = bs }

abbrev pub refuses : PageCause → ℕ → List ℕ → Outcome
refuses c used page = record { answer = Err (told_at c used); count = used; bytes = page }

abbrev pub appends : ℕ → List ℕ → List ℕ → Outcome
appends used page bs =
    cond (nat_le (used + length bs) (length page))
    (record { answer = Ok (used + length bs); count = used + length bs; bytes = written used page bs })
    (refuses ShortPage used page)

abbrev pub appends_stroke : ℕ → List ℕ → Stroke → Outcome
appends_stroke used page s = cond (codes s.order) (appends used page (stroke_bytes s)) (refuses WrongCode used page)

abbrev pub appends_kept : ℕ → List ℕ → ℕ → Totals → List ℕ → Outcome
appends_kept used page n t ks = cond (kept_fits n t ks) (appends used page (kept_bytes n t ks)) (refuses ShortPage used page)

abbrev pub appends_refused : ℕ → List ℕ → ℕ → ℕ → ℕ → Outcome
appends_refused used page n c p = appends used page (refused_bytes n c p)

abbrev pub OneMore : ℕ → List ℕ → Stroke → ℕ → List ℕ → Type 0
OneMore used before s n after =
    (ss : List Stroke) → reading (take used before) ≡ record { strokes = ss; ending = accepted } → reading (take n after) ≡ record { strokes = ss ++ s ∷ []; ending = accepted }
