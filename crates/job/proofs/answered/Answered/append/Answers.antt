use Rattle.std.proofs.Common.{ℕ, ◌≤◌, List, length, Result, sym, ap, ◌∙◌, arith, length-take}
use Rattle.std.proofs.lemmas.Bool.{cond-true}
use Rattle.tray.specs.declared.causes.Refusal.{Refusal}
use Rattle.page.specs.Answers.{kept_bytes}
use Rattle.page.specs.Appends.{appends}
use Rattle.page.proofs.Kepts.{kept_fits_where_short}
use Rattle.job.specs.declared.kept.Kept.{Kept}
use Rattle.job.specs.Answer.{spoken}
use Rattle.job.specs.Records.{answer_bytes}
use Rattle.job.proofs.answered.Answered.append.Goals as goal

pub returns-in-Ok : goal.returns-in-Ok
returns-in-Ok c =
    let a = c.args.self.now in
    let k = c.in-Ok.kept in
    let used = c.args.writer.now.used in
    let page = c.args.page.now in
    let short : length c.numbers.result.now ≤ 32757 = (let e = ap length c.numbers.ensures in let l = length-take k.count k.list in omega (arith, e, l, k.fits)) in
    let A : List ℕ → _ = λ v. appends used page (kept_bytes a.number k.totals v) in
    let B : Result Kept Refusal → _ = λ r. appends used page (answer_bytes a.number (spoken r)) in
    c.append_kept.ensures ∙ cond-true _ _ _ (kept_fits_where_short a.number k.totals c.numbers.result.now short) ∙ ap A c.numbers.ensures ∙ sym (ap B c.in-Ok.is)
