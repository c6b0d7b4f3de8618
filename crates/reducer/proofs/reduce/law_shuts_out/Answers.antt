use Rattle.reducer.proofs.OneReply.{one_reply}
use Rattle.reducer.proofs.Worthlesses.{shut_out, one_kept}
use Rattle.reducer.proofs.reduce.law_shuts_out.Goals as goal

pub returns : goal.returns
returns c = record { worthless = shut_out; one_kept = one_kept; one_reply = one_reply }
