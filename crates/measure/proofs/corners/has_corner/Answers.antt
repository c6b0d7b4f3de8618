use Rattle.std.proofs.Common.{◌+◌, ◌-◌, ap, ◌∙◌, rules}
use borrow.Author.Tests.{tests}
use Rattle.std.proofs.lemmas.Iterator.{YieldsList-from_slice}
use Rattle.std.proofs.lemmas.Iterator.Search.{any_from_yields_List}
use Rattle.tray.specs.declared.point.Point.{Point}
use Rattle.measure.specs.Layers.{is_corner, corner_at}
use Rattle.measure.proofs.Parts.{any_by_number}
use Rattle.measure.proofs.corners.has_corner.Goals as goal

pub returns : goal.returns
returns c =
    let s = c.args.chord.now in
    let test = λ (p : Point). is_corner p.mark in
    any_from_yields_List test _ _ _ c.any.ensures.ran (YieldsList-from_slice c.between.result.now (cc)) (λ x b q k. search (rules, tests))
    ∙ any_by_number test (corner_at s.points.now) c.between.result.now (s.from + 1) (λ n h. ap test (c.between.ensures.numbered n h)) (s.to - (s.from + 1)) c.between.ensures.many
