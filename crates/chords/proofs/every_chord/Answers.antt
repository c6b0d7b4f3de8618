use Rattle.std.proofs.Common.{◌^◌, ◌∙◌, length, rules, arith}
use borrow.Author.Tests.{tests}
use Rattle.std.proofs.lemmas.Iterator.{YieldsList-from_map}
use Rattle.std.proofs.lemmas.Iterator.Consumers.{YieldsList-at, sum_by_from_yields_List, fits_by_from_yields_list}
use Rattle.std.specs.List.{range_with_len}
use Rattle.tray.specs.Trays.{stroke}
use Rattle.tray.proofs.Tables.{lawful_points}
use Rattle.chords.specs.Every.{errors_to}
use Rattle.chords.proofs.Totals.{YieldsList-from_inclusive, sum_over, all_small}
use Rattle.chords.proofs.every_chord.Goals as goal

pub sum-requires-clause-fits : goal.sum-requires-clause-fits
sum-requires-clause-fits g c =
    let m = g.M.Measure.meaning c.args.measure.now in
    let ps = stroke c.args.stroke.now in
    let h = errors_to m ps in
    let n = length c.points-n.result.now in
    let a = all_small m (g.met.M.Measure.limited c.args.measure.now) ps (lawful_points c.args.stroke.now.table) n (omega (arith, c.points-n.ensures.lawful.few)) in
    fits_by_from_yields_list h (range_with_len 1 n) c.map.result (2 ^ 64) (YieldsList-from_map _ h (YieldsList-at c.map.ensures.source (YieldsList-from_inclusive n c.new.ensures.start c.new.ensures.end c.new.ensures.exhausted)) c.map.ensures.closure (λ x r q k. search (rules, tests)))
    (omega (arith, a, sum_over h 1 n))

pub returns : goal.returns
returns g c =
    let m = g.M.Measure.meaning c.args.measure.now in
    let ps = stroke c.args.stroke.now in
    let h = errors_to m ps in
    let n = length c.points-n.result.now in
    sum_by_from_yields_List h (range_with_len 1 n) c.map.result c.sum.result c.sum.ensures.ran (YieldsList-from_map _ h (YieldsList-at c.map.ensures.source (YieldsList-from_inclusive n c.new.ensures.start c.new.ensures.end c.new.ensures.exhausted)) c.map.ensures.closure (λ x r q k. search (rules, tests)))
    ∙ rw c.points-n.ensures.value (sum_over h 1 (length ps))
