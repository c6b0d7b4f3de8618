-- Answers as the code holds them, and as bytes.
--   shown          the answer that the code holds
--   kept_of        the kept numbers of an answer
--   answer_bytes   its record on an answer page
--   Answers a s    the code holds the answer of the stroke s
use Rattle.std.specs.Prelude.{◌≡◌, ℕ, List, []}
use Rattle.page.specs.Strokes.{Stroke}
use Rattle.page.specs.Answers.{kept_bytes, refused_bytes}
use Rattle.job.specs.declared.answered.Answered.{Answered}
use Rattle.job.specs.Answer.{Answer, kept, refused, spoken, answer}

abbrev pub shown : Answered → Answer
shown a = spoken a.reply

-- the kept numbers of an answer; none of a refusal
abbrev pub kept_of : Answer → List ℕ
kept_of (kept t ks) = ks
kept_of (refused t) = []

abbrev pub answer_bytes : ℕ → Answer → List ℕ
answer_bytes n (kept t ks) = kept_bytes n t ks
answer_bytes n (refused t) = refused_bytes n t.number t.place

pub record Answers (a : Answered) (s : Stroke) : Type 0 where
  pub number : a.number ≡ s.number
  pub total : a.total ≡ s.order.total
  pub reply : shown a ≡ answer s
