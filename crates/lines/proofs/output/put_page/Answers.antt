use Rattle.std.proofs.Common.{◌≡◌, Some, Ok, Err, refl, sym, ap, ◌∙◌, subst}
use Rattle.refusal.specs.Texts.{refusal_text}
use Rattle.job.specs.Jobs.{next_done, next_from}
use Rattle.lines.specs.Output.{with_feed}
use Rattle.lines.proofs.Outputs.{stopped, answered, left_more, left_last, some_ok, some_err, on_ok}
use Rattle.lines.proofs.output.put_page.Goals as goal

pub returns-in-Err : goal.returns-in-Err
returns-in-Err g c =
    let j = c.loop-next.job in
    let is : c.next.result ≡ Err c.in-Err.stop = some_err c.next.result c.in-Err.stop (sym c.transpose.ensures ∙ c.in-Some.is ∙ ap Some c.in-Err.is) in
    let next = subst (λ r. next_done r c.next.new.self c.next.new.answers ≡ next_from j c.loop-next.answers) is c.next.ensures.next in
    let told = stopped j c.next.new.self c.loop-next.answers c.next.new.answers c.loop-next.invariant.1 c.in-Err.stop next in
    on_ok c.put-in-Err.result
    (left_last _ _ _ _ _ _ c.loop-next.invariant.0 (told ∙ ap (λ t. with_feed (refusal_text t)) (sym c.from.ensures)))
    (c.put-in-Err.ensures _ refl)

pub loop-next-preserved : goal.loop-next-preserved
loop-next-preserved g c =
    let j = c.loop-next.job in
    let is : c.next.result ≡ Ok (Some c.in-Ok.answered) = some_ok c.next.result c.in-Ok.answered (sym c.transpose.ensures ∙ c.in-Some.is ∙ ap Some c.in-Ok.is) in
    let next = subst (λ r. next_done r c.next.new.self c.next.new.answers ≡ next_from j c.loop-next.answers) is c.next.ensures.next in
    let q = answered j c.next.new.self c.loop-next.answers c.next.new.answers c.loop-next.invariant.1 _ c.in-Ok.answered refl next in
    (left_more _ _ _ _ _ _ _ c.loop-next.invariant.0 (c.in_ok-put-in-Ok.ensures _ refl) q.0, q.1)
