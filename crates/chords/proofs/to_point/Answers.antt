use Rattle.std.proofs.Common.{ℕ, ◌-◌, ◌^◌, ◌∙◌, rules, arith}
use borrow.Author.Tests.{tests}
use Rattle.std.specs.List.{range_with_len}
use Rattle.std.proofs.lemmas.Iterator.{YieldsList-from_range}
use Rattle.std.proofs.lemmas.Iterator.Consumers.{YieldsList-from_filter_map, YieldsList-at, sum_from_yields_List, fits_from_yields_list}
use Rattle.tray.specs.Trays.{stroke}
use Rattle.tray.proofs.Tables.{lawful_points}
use Rattle.chords.specs.Every.{counted_at}
use Rattle.chords.proofs.Totals.{sum_of_some, sum_over, some_small}
use Rattle.chords.proofs.to_point.Goals as goal

pub sum-requires-clause-fits : goal.sum-requires-clause-fits
sum-requires-clause-fits g c =
    let j = c.args.j in
    let m = g.M.Measure.meaning c.args.measure.now in
    let ps = stroke c.args.stroke.now in
    let h = λ (i : ℕ). m ps i j in
    let a = some_small m (g.met.M.Measure.limited c.args.measure.now) ps (lawful_points c.args.stroke.now.table) j (j - 1) in
    fits_from_yields_list c.filter_map.result (2 ^ 64) (YieldsList-from_filter_map _ h (YieldsList-at c.filter_map.ensures.source (YieldsList-from_range 1 j (j - 1) (cc) (cc))) c.filter_map.ensures.closure (λ x r q k. search (rules, tests)))
    (omega (arith, a, sum_of_some h (range_with_len 1 (j - 1)), sum_over (counted_at m ps j) 1 (j - 1)))

pub returns : goal.returns
returns g c =
    let j = c.args.j in
    let m = g.M.Measure.meaning c.args.measure.now in
    let ps = stroke c.args.stroke.now in
    let h = λ (i : ℕ). m ps i j in
    sum_from_yields_List c.filter_map.result c.sum.result c.sum.ensures.ran (YieldsList-from_filter_map _ h (YieldsList-at c.filter_map.ensures.source (YieldsList-from_range 1 j (j - 1) (cc) (cc))) c.filter_map.ensures.closure (λ x r q k. search (rules, tests)))
    ∙ (sum_of_some h (range_with_len 1 (j - 1)) ∙ sum_over (counted_at m ps j) 1 (j - 1))
