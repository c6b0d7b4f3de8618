-- What a job keeps, over every page and every answer page.
--   Ends              how a job ends, where so many bytes of the answer page's room are filled and these records are left
--   HoldsTheAnswers   the answer page begins with the records of the first strokes of the page, in order, and is else as it was;
--                     where a stroke is left, its record does not fit behind them, and the job is refused there
--   AnswersFit        the records that answer the strokes of a page are together no longer than the page
--   FitsThePage       so an answer page as long as the page has room for every answer
--   OwnRecordsAlone   on a page with one stroke alone, the job appends the record that answers it on every page
--   Never8Or10        no stroke is refused for a short table or a short list
use Rattle.std.specs.Prelude.{◌≡◌, ℕ, ◌+◌, ◌<◌, ◌≤◌, List, [], ◌∷◌, ◌++◌, map, length, ◌≢◌}
use Rattle.std.specs.List.{flat_map}
use Rattle.refusal.specs.declared.Told.{Told}
use Rattle.page.specs.declared.fault.PageCause.TheVariants.{ShortPage}
use Rattle.page.specs.Faults.{told_at}
use Rattle.page.specs.Strokes.{Stroke, page_bytes}
use Rattle.page.specs.Fits.{StrokeFits}
use Rattle.page.specs.Steps.{Ending, accepted, refused_by, reading}
use Rattle.page.specs.Writes.{written}
use Rattle.job.specs.Answer.{refused, answer}
use Rattle.job.specs.Jobs.{record_of, ended, jobbed}

-- as the reading of the page ends, where no record is left; else by the refusal of a short page, and the next record does not fit
abbrev pub Ends : ℕ → ℕ → List (List ℕ) → Ending → Ending → Type 0
Ends room filled [] own e = e ≡ own
Ends room filled (r ∷ rs) own e = (e ≡ refused_by (told_at ShortPage filled)) × (room < filled + length r)

pub record HoldsTheAnswers (bs out : List ℕ) : Type 0 where
  pub first : List Stroke
  pub others : List Stroke
  pub strokes : (reading bs).strokes ≡ first ++ others
  pub count : (jobbed bs out).answered ≡ length first
  pub room : length (flat_map record_of first) ≤ length out
  pub bytes : (jobbed bs out).bytes ≡ written 0 out (flat_map record_of first)
  pub ending : Ends (length out) (length (flat_map record_of first)) (map record_of others) (reading bs).ending (jobbed bs out).ending

abbrev pub AnswersFit : List ℕ → Type 0
AnswersFit bs = length (flat_map record_of (reading bs).strokes) ≤ length bs

abbrev pub FitsThePage : List ℕ → List ℕ → Type 0
FitsThePage bs out = length bs ≤ length out →
    ((jobbed bs out).ending ≡ (reading bs).ending) × ((jobbed bs out).answered ≡ length (reading bs).strokes)

abbrev pub OwnRecordsAlone : Type 0
OwnRecordsAlone = (s : Stroke) (out : List ℕ) → StrokeFits s → length (record_of s) ≤ length out →
    jobbed (page_bytes (s ∷ [])) out ≡ ended 1 accepted (written 0 out (record_of s))

abbrev pub Never8Or10 : Type 0
Never8Or10 = (s : Stroke) (t : Told) → answer s ≡ refused t → (t.number ≢ 8) × (t.number ≢ 10)
