-- What a job makes of a page.
--   Outcome      how many strokes were answered, how the job ended, and the answer page then
--   answering    the strokes of a reading answered in turn, as long as their records fit the answer page
--   jobbed       the same for a whole page
--   Next         one stroke more: what is told of it, what is left to read, and where the answer page stands
--   next_of      the first stroke of a reading answered
--   beside       a step's answer, with a count around a refusal
--   More         how many bytes a call leaves
--   Side         a refusal is the page's where no stroke is left to read, and the answer page's where one is
--   RunSide      the same at the end of a whole job, by the strokes that it did not answer
use Rattle.std.specs.Prelude.{ℕ, ◌+◌, ◌<◌, cond, List, [], ◌∷◌, length, drop, Some, None, Ok, Err, Option, Result, nat_le}
use Rattle.refusal.specs.declared.Told.{Told}
use Rattle.page.specs.declared.fault.PageCause.TheVariants.{ShortPage}
use Rattle.page.specs.declared.fault.StepFault.{StepFault}
use Rattle.page.specs.declared.fault.StepFault.TheVariants.{Page as Read, Answers}
use Rattle.page.specs.Faults.{step_told, told_at}
use Rattle.page.specs.Strokes.{Stroke}
use Rattle.page.specs.Steps.{Reading, Ending, accepted, refused_by, reading}
use Rattle.page.specs.Writes.{written}
use Rattle.job.specs.declared.answered.Answered.{Answered}
use Rattle.job.specs.declared.job.Job.{Job}
use Rattle.job.specs.declared.job.JobFault.{JobFault}
use Rattle.job.specs.Answer.{Answer, answer}
use Rattle.job.specs.Whole.{left}
use Rattle.job.specs.Records.{shown, answer_bytes}

-- the record that answers a stroke
abbrev pub record_of : Stroke → List ℕ
record_of s = answer_bytes s.number (answer s)

pub record Outcome : Type 0 where
  pub answered : ℕ
  pub ending : Ending
  pub bytes : List ℕ

abbrev pub ended : ℕ → Ending → List ℕ → Outcome
ended n e bs = record { answered = n; ending = e; bytes = bs }

abbrev pub answering : ℕ → ℕ → List ℕ → List Stroke → Ending → Outcome
answering n used out [] e = ended n e out
answering n used out (s ∷ ss) e =
    cond (nat_le (used + length (record_of s)) (length out))
    (answering (n + 1) (used + length (record_of s)) (written used out (record_of s)) ss e)
    (ended n (refused_by (told_at ShortPage used)) out)

abbrev pub jobbed : List ℕ → List ℕ → Outcome
jobbed bs out = answering 0 0 out (reading bs).strokes (reading bs).ending

-- what a run of the code tells, with what the answer page holds then
abbrev pub outcome_of : Result ℕ JobFault → List ℕ → Outcome
outcome_of (Ok n) bs = ended n accepted bs
outcome_of (Err f) bs = ended f.appended (refused_by (step_told f.fault)) bs

-- a stroke's number, the code of its kind of total, and its answer
pub record Line : Type 0 where
  pub number : ℕ
  pub total : ℕ
  pub reply : Answer

abbrev pub line_of : Stroke → Line
line_of s = record { number = s.number; total = s.order.total; reply = answer s }

abbrev pub line : Answered → Line
line a = record { number = a.number; total = a.total; reply = shown a }

-- what was told: a line, the end, or a refusal beside how many strokes were answered
pub data Said : Type 0 where
  one_more : Line → Said
  no_more : Said
  stopped_by : ℕ → Told → Said

abbrev pub said_of : Result (Option Answered) JobFault → Said
said_of (Ok (Some a)) = one_more (line a)
said_of (Ok None) = no_more
said_of (Err f) = stopped_by f.appended (step_told f.fault)

pub record Next : Type 0 where
  pub says : Said
  pub remains : Reading
  pub count : ℕ
  pub used : ℕ
  pub bytes : List ℕ

abbrev pub at_end : ℕ → Ending → Said
at_end n accepted = no_more
at_end n (refused_by t) = stopped_by n t

-- a refused call leaves everything as it was
abbrev pub next_of : List Stroke → Ending → ℕ → ℕ → List ℕ → Next
next_of [] e n used out = record { says = at_end n e; remains = record { strokes = []; ending = e }; count = n; used = used; bytes = out }
next_of (s ∷ ss) e n used out =
    cond (nat_le (used + length (record_of s)) (length out))
    (record {
      says = one_more (line_of s);
      remains = record { strokes = ss; ending = e };
      count = n + 1;
      used = used + length (record_of s);
      bytes = written used out (record_of s);
    })
    (record { says = stopped_by n (told_at ShortPage used); remains = record { strokes = s ∷ ss; ending = e }; count = n; used = used; bytes = out })

abbrev pub to_read : Job → Reading
to_read j = left j.walk

abbrev pub next_from : Job → List ℕ → Next
next_from j out = next_of (to_read j).strokes (to_read j).ending j.count j.writer.used out

-- a step's answer, with the count of the strokes answered before it around a refusal
abbrev pub beside : ℕ → Result (Option Answered) StepFault → Result (Option Answered) JobFault
beside n (Ok a) = Ok a
beside n (Err f) = Err (record { appended = n; fault = f })

-- what one call of the code tells and leaves
abbrev pub next_done : Result (Option Answered) JobFault → Job → List ℕ → Next
next_done r j out = record { says = said_of r; remains = to_read j; count = j.count; used = j.writer.used; bytes = out }

-- a stroke that was answered leaves fewer bytes to read
abbrev pub More : ℕ → ℕ → Result (Option Answered) JobFault → Type 0
More new old (Ok (Some a)) = new < old
More new old (Ok None) = Unit {0}
More new old (Err f) = Unit {0}

abbrev pub OnSide : List Stroke → StepFault → Type 0
OnSide [] (Read f) = Unit {0}
OnSide [] (Answers f) = ⊥
OnSide (s ∷ ss) (Read f) = ⊥
OnSide (s ∷ ss) (Answers f) = Unit {0}

abbrev pub Side : List Stroke → Result (Option Answered) JobFault → Type 0
Side ss (Ok a) = Unit {0}
Side ss (Err f) = OnSide ss f.fault

abbrev pub RunSide : List Stroke → Result ℕ JobFault → Type 0
RunSide ss (Ok n) = Unit {0}
RunSide ss (Err f) = OnSide (drop f.appended ss) f.fault
