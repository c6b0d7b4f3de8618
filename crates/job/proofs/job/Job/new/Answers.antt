-- The laws hold of every page, and so of this one, since its elements are bytes.
use Rattle.std.proofs.Common.{rules}
use Rattle.std.proofs.ByRecursion.{All-from_get_or}
use Rattle.page.specs.Fits.{Byte}
use Rattle.job.proofs.EachKind.{never_8_or_10}
use Rattle.job.proofs.Fitting.{answers_fit}
use Rattle.job.proofs.Keeping.{keeps_the_law}
use Rattle.job.proofs.job.Job.new.Goals as goal

pub returns : goal.returns
returns c =
    let bs = c.args.page.now in
    record {
      reads = search rules;
      count = search rules;
      used = search rules;
      fits = answers_fit bs (All-from_get_or Byte bs 0 (λ i _. (c.type_inv.page i).fits));
      roomy = never_8_or_10;
      lawful = keeps_the_law;
    }
