-- Strokes that are written read back.
use Rattle.std.proofs.Common.{refl}
use Rattle.page.proofs.Returning.{written_reads_back}
use Rattle.page.proofs.writer.Writer.new.Goals as goal

pub returns : goal.returns
returns c = record { used = refl; back = written_reads_back }
