use Rattle.std.proofs.lemmas.Result.{err_from_is_err_and}
use Rattle.page.specs.declared.kinds.Step.TheVariants.{Begin, End}
use Rattle.job.proofs.Steps.{ok_is, reads_outside, parts_known, falls_known}
use Rattle.job.proofs.reads.step_between.Goals as goal

pub returns-in_err-number : goal.returns-in_err-number
returns-in_err-number c =
    let p = err_from_is_err_and c.from_residual.result c.from_residual.ensures.1 in
    let reads = reads_outside c.args.walk.now c.step.new.self _ _ c.in_err-number.was c.step.ensures.reads c.requires in
    rw (p.1, p.2) (record { reads = reads; part = tt; falls = tt })

pub returns-in-Begin : goal.returns-in-Begin
returns-in-Begin c =
    let w = c.args.walk.now in
    let w' = c.step.new.self in
    let e = ok_is c.step.result _ (Begin c.in-Begin.number) c.in_ok-number.was c.in-Begin.is in
    record {
      reads = reads_outside w w' _ _ e c.step.ensures.reads c.requires;
      part = (parts_known w w' _ _ e c.step.ensures.parts).1;
      falls = falls_known w w' _ _ e c.step.ensures.falls;
    }

pub returns-in-End : goal.returns-in-End
returns-in-End c =
    let w = c.args.walk.now in
    let w' = c.step.new.self in
    let e = ok_is c.step.result _ (End) c.in_ok-number.was c.in-End.is in
    record {
      reads = reads_outside w w' _ _ e c.step.ensures.reads c.requires;
      part = tt;
      falls = tt;
    }
