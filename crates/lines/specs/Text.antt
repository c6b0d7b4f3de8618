-- The lines that the program prints, as bytes.
--   kept_text       a space and a number for each kept point
--   figures_text    one figure, or two for the kind of total with the code 3
--   line_text       the line of a stroke
use Rattle.std.specs.Prelude.{ℕ, cond, List, [], ◌++◌, codes, ◌==◌}
use Rattle.std.specs.List.{flat_map}
use Rattle.refusal.specs.Texts.{worded, refused_text}
use Rattle.page.specs.declared.kinds.Totals.{Totals}
use Rattle.job.specs.Answer.{Answer, kept, refused}
use Rattle.job.specs.Jobs.{Line}

abbrev pub kept_text : List ℕ → List ℕ
kept_text ks = flat_map (worded (codes " ")) ks

abbrev pub figures_text : ℕ → Totals → List ℕ
figures_text c t = worded (codes " total ") t.first ++ cond (c == 3) (worded (codes " ") t.second) []

abbrev pub reply_text : ℕ → Answer → List ℕ
reply_text c (kept t ks) = codes " kept" ++ (kept_text ks ++ figures_text c t)
reply_text c (refused t) = refused_text t

abbrev pub line_text : Line → List ℕ
line_text l = worded (codes "stroke ") l.number ++ reply_text l.total l.reply
