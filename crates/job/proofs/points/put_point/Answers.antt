-- The points and their marks stay as many, whether the put is answered or refused.
use Rattle.std.proofs.Common.{◌≡◌, ◌+◌, length, Ok, Err, sym, ap, ◌∙◌, arith, rules}
use Rattle.std.proofs.lemmas.List.{length_push}
use Rattle.tray.specs.Machine.{plain, put_says, put_after}
use Rattle.tray.specs.Refusals.{told}
use Rattle.tray.specs.Trays.{writing}
use Rattle.job.proofs.Puts.{added, refused_put}
use Rattle.job.proofs.points.put_point.Goals as goal

pub returns-in_err-put-clause-paired : goal.returns-in_err-put-clause-paired
returns-in_err-put-clause-paired c =
    let p = c.args.p in
    let ps = (writing c.args.tray.now).points in
    let says : Err (told c.in_err-put.field-0.0) ≡ put_says ps p.x p.y p.t = search rules in
    let after : (writing c.put.new.self).points ≡ put_after ps p.x p.y p.t = search rules in
    c.requires ∙ sym (ap length (after ∙ refused_put ps p.x p.y p.t _ says))

pub push-requires : goal.push-requires
push-requires c =
    let p = c.args.p in
    let ps = (writing c.args.tray.now).points in
    let says : Ok c.in_ok-put.field-0 ≡ put_says ps p.x p.y p.t = search rules in
    let a = added _ _ _ _ _ says in
    (omega arith, omega (arith, a.room, c.requires))

pub returns-clause-paired : goal.returns-clause-paired
returns-clause-paired c =
    let p = c.args.p in
    let ps = (writing c.args.tray.now).points in
    let says : Ok c.in_ok-put.field-0 ≡ put_says ps p.x p.y p.t = search rules in
    let a = added _ _ _ _ _ says in
    let after : (writing c.put.new.self).points ≡ put_after ps p.x p.y p.t = search rules in
    ap length c.push.ensures.items ∙ length_push c.args.marks.now.items p.mark ∙ ap (λ n. n + 1) c.requires ∙ sym (length_push ps (plain p.x p.y p.t)) ∙ sym (ap length (after ∙ a.after))
