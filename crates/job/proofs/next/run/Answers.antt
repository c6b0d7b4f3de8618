-- The laws hold of every page, and so of the pages of this run, since their elements are bytes.
use Rattle.std.proofs.Common.{sym, rules}
use Rattle.std.proofs.ByRecursion.{All-from_get_or}
use Rattle.page.specs.Fits.{Byte}
use Rattle.page.specs.Steps.{reading}
use Rattle.job.specs.Jobs.{to_read}
use Rattle.job.proofs.Answerings.{holds_the_answers, own_records_alone}
use Rattle.job.proofs.Fitting.{fits_the_page}
use Rattle.job.proofs.Nexts.{leaves_on}
use Rattle.job.proofs.next.run.Goals as goal

pub loop-preserved : goal.loop-preserved
loop-preserved c =
    let j = c.loop.job in (
      search rules,
      leaves_on (reading c.args.page.now).strokes _ (to_read j).ending j.count j.writer.used c.loop.answers c.next.new.self c.next.new.answers c.loop.invariant.1 c.in_ok-next.field-0 (sym c.if-is_some.ensures) c.in_ok-next.ensures.next,
    )

pub returns-in_err-next-clause-fits : goal.returns-in_err-next-clause-fits
returns-in_err-next-clause-fits c = let bs = c.args.page.now in fits_the_page bs c.args.answers.now (All-from_get_or Byte bs 0 (λ i _. (c.type_inv.page i).fits))

pub returns-in_err-next-clause-holds : goal.returns-in_err-next-clause-holds
returns-in_err-next-clause-holds c = holds_the_answers c.args.page.now c.args.answers.now

pub returns-in_err-next-clause-alone : goal.returns-in_err-next-clause-alone
returns-in_err-next-clause-alone c = own_records_alone

pub returns-clause-fits : goal.returns-clause-fits
returns-clause-fits c = let bs = c.args.page.now in fits_the_page bs c.args.answers.now (All-from_get_or Byte bs 0 (λ i _. (c.type_inv.page i).fits))

pub returns-clause-holds : goal.returns-clause-holds
returns-clause-holds c = holds_the_answers c.args.page.now c.args.answers.now

pub returns-clause-alone : goal.returns-clause-alone
returns-clause-alone c = own_records_alone
