-- Each way out of a step, by the step that the definitions make there.
use Rattle.std.proofs.Common.{◌≡◌, ℕ, ◌+◌, ◌<◌, List, length, Ok, Err, Result, sym, ap, ◌∙◌, arith, true-eqb, false-eqb}
use Rattle.std.proofs.lemmas.Result.{err_from_is_err_and}
use Rattle.page.specs.declared.fault.PageFault.{PageFault}
use Rattle.page.specs.declared.kinds.Step.{Step}
use Rattle.page.specs.declared.walk.Walk.{Walk}
use Rattle.page.specs.Faults.{told, told_at}
use Rattle.page.specs.Records.{Rec, size_of}
use Rattle.page.specs.Steps.{meant, stepped, stays}
use Rattle.page.specs.Walks.{rec_of, seen}
use Rattle.page.proofs.Framing.{Fronted, front_one}
use Rattle.page.proofs.Stepping.{reads_on, falls_on, parts_on, step_one, step_refused, step_bad, step_end}
use Rattle.page.proofs.walk.Walk.step.Goals as goal
use Rattle.page.proofs.walk.Walk.step.Goals.{In_ok-placed}

-- a refusal that came through `?` moves nothing
broke : (r : Result Step PageFault) (w : Walk) (f : PageFault) → r ≡ Err f → stays w.place w.part w.rest.now (Err (told f)) ≡ stepped w.place w.part w.rest.now → seen r w ≡ stepped w.place w.part w.rest.now
broke r w f e s = ap (λ x. seen x w) e ∙ s

pub returns-then-is_empty : goal.returns-then-is_empty
returns-then-is_empty c =
    let w : Walk = c.args.self.now in
    let s = step_end w.place w.part w.rest.now _ (true-eqb _ 0 c.if-is_empty.ensures) c.page_end.ensures in
    record { steps = s; reads = reads_on _ _ _ _ s; falls = falls_on _ _ _ _ s; parts = parts_on w.place w.part w.rest.now _ s }

pub returns-in_err-placed : goal.returns-in_err-placed
returns-in_err-placed c =
    let w : Walk = c.args.self.now in
    let f : PageFault = c.in_err-placed.field-0.0 in
    let some : 0 < length w.rest.now = omega (arith, false-eqb _ 0 c.if-is_empty.ensures) in
    let p = err_from_is_err_and c.from_residual.result c.from_residual.ensures.1 in
    let s = broke c.from_residual.result w f (p.1 ∙ ap Err p.2) (ap (λ q. stays w.place w.part w.rest.now (Err (told_at f.cause q))) c.in_err-placed.ensures.place ∙ step_bad w.place w.part w.rest.now f.cause some (sym c.in_err-placed.ensures.front)) in
    record { steps = s; reads = reads_on _ _ _ _ s; falls = falls_on _ _ _ _ s; parts = parts_on w.place w.part w.rest.now _ s }

pub returns-in_err-step : goal.returns-in_err-step
returns-in_err-step c =
    let w : Walk = c.args.self.now in
    let r : Rec = rec_of c.in_ok-placed.placed.record in
    let p = err_from_is_err_and c.from_residual-in_err-step.result c.from_residual-in_err-step.ensures.1 in
    let says = sym (ap (λ q. meant q w.part r) c.in_ok-placed.ensures.place) in
    let s = broke c.from_residual-in_err-step.result w c.in_err-step.field-0.0 (p.1 ∙ ap Err p.2) (step_refused w.place w.part w.rest.now r c.in_ok-placed.after.now _ (sym c.in_ok-placed.ensures.front) (says ∙ sym c.in_err-step.ensures)) in
    record { steps = s; reads = reads_on _ _ _ _ s; falls = falls_on _ _ _ _ s; parts = parts_on w.place w.part w.rest.now _ s }

-- the record that was taken
taken : (c : In_ok-placed) → Fronted c.args.self.now.rest.now (rec_of c.in_ok-placed.placed.record) c.in_ok-placed.after.now
taken c = front_one _ _ _ (sym c.in_ok-placed.ensures.front)

pub overflow_sub-self : goal.overflow_sub-self
overflow_sub-self c = let t = taken (goal.at.overflow_sub-self c).In_ok-placed in omega arith

pub standing-requires : goal.standing-requires
standing-requires c = let t = taken (goal.at.standing-requires c).In_ok-placed in omega arith

pub returns : goal.returns
returns c =
    let w : Walk = c.args.self.now in
    let r : Rec = rec_of c.in_ok-placed.placed.record in
    let t = taken (goal.at.returns c).In_ok-placed in
    let left : List ℕ = c.in_ok-placed.after.now in
    let at = c.standing.ensures.place in
    let next : c.standing.result.place ≡ w.place + (4 + size_of r) = omega arith in
    let says = sym (ap (λ q. meant q w.part r) c.in_ok-placed.ensures.place) in
    let s = (λ i. record { answer = Ok c.in_ok-step.step; place = c.standing.result.place; part = (c.standing.ensures.part ∙ c.part_after.ensures) i; rest = c.standing.ensures.rest i }) ∙ step_one w.place c.standing.result.place w.part w.rest.now r left c.in_ok-step.step (sym c.in_ok-placed.ensures.front) next (says ∙ sym c.in_ok-step.ensures) in
    record { steps = s; reads = reads_on _ _ _ _ s; falls = falls_on _ _ _ _ s; parts = parts_on w.place w.part w.rest.now _ s }
