use Rattle.std.proofs.Common.{◌≡◌, true, map, is_ok, sym, ap, ◌∙◌, rules}
use Rattle.tray.specs.History.{State}
use Rattle.tray.specs.Trays.{stroke, writing}
use Rattle.page.specs.Codes.{coded}
use Rattle.job.specs.Answer.{answer_of, if_drawn, point_of}
use Rattle.job.specs.Marking.{cornered_by}
use Rattle.job.proofs.Opens.{finished}
use Rattle.job.proofs.open.OpenStroke.finish.Goals as goal

pub returns : goal.returns
returns c = λ ps h.
    let o = c.args.self in
    let ok : is_ok o.drawn ≡ true = search rules in
    let s : stroke c.lift-stroke.result ≡ (writing o.tray).points = ap (λ (s : State). s.points) c.lift-stroke.ensures.steps in
    let f = finished o ps (stroke c.mark_corners.new.stroke) ok h (c.mark_corners.ensures ∙ (λ i. cornered_by (c.as_slice.ensures.value i) (s i))) in
    c.keep.ensures ∙ ap (answer_of (coded c.args.order)) f.points ∙ sym (ap (λ d. if_drawn d (answer_of (coded c.args.order) (map point_of ps))) f.drawn)
