use Rattle.std.proofs.lemmas.Result.{err_from_is_err_and}
use Rattle.page.specs.declared.kinds.Step.TheVariants.{Point as Next, Finish}
use Rattle.job.proofs.Steps.{ok_is, reads_inside, parts_known, falls_known}
use Rattle.job.proofs.reads.step_within.Goals as goal

pub returns-in_err-p : goal.returns-in_err-p
returns-in_err-p c =
    let p = err_from_is_err_and c.from_residual.result c.from_residual.ensures.1 in
    let reads = reads_inside c.args.walk.now c.step.new.self _ _ c.in_err-p.was c.step.ensures.reads c.requires in
    rw (p.1, p.2) (record { reads = reads; part = tt; falls = tt })

pub returns-in-Point : goal.returns-in-Point
returns-in-Point c =
    let w = c.args.walk.now in
    let w' = c.step.new.self in
    let e = ok_is c.step.result _ (Next c.in-Point.p) c.in_ok-p.was c.in-Point.is in
    record {
      reads = reads_inside w w' _ _ e c.step.ensures.reads c.requires;
      part = (parts_known w w' _ _ e c.step.ensures.parts).1;
      falls = falls_known w w' _ _ e c.step.ensures.falls;
    }

pub returns-in-Finish : goal.returns-in-Finish
returns-in-Finish c =
    let w = c.args.walk.now in
    let w' = c.step.new.self in
    let e = ok_is c.step.result _ (Finish c.in-Finish.order) c.in_ok-p.was c.in-Finish.is in
    record {
      reads = reads_inside w w' _ _ e c.step.ensures.reads c.requires;
      part = (parts_known w w' _ _ e c.step.ensures.parts).1;
      falls = falls_known w w' _ _ e c.step.ensures.falls;
    }
