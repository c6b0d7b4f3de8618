use Rattle.std.proofs.Common.{◌≡◌, ◌+◌, get_or, drop, pos, sym, ap, ◌∙◌, w32, SFits, rules}
use Rattle.std.proofs.lemmas.List.{at_drop_more, at_drop_all}
use Rattle.std.proofs.lemmas.Int.{to_z-of_z}
use Rattle.tray.specs.Machine.{put_after}
use Rattle.tray.specs.History.{State}
use Rattle.tray.specs.Trays.{writing}
use Rattle.chords.specs.declared.Place.{Place}
use Rattle.chords.specs.Every.{put_after_all}
use Rattle.chords.proofs.drawn.Goals as goal

pub loop-p-preserved : goal.loop-p-preserved
loop-p-preserved c =
    let qs = c.args.places.now in
    let n = c.loop-p.p-index in
    let ps = (writing c.loop-p.tray).points in
    let none : Place = record { x = pos 0; y = pos 0; t = 0 } in
    let q = get_or qs n none in
    let fx : SFits w32 q.x = search rules in
    let fy : SFits w32 q.y = search rules in
    let s = simp to_z-of_z at (ap (λ (s : State). s.points) c.put.ensures.steps) in
    let e : put_after_all ps (drop n qs) ≡ put_after_all (put_after ps q.x q.y q.t) (drop (n + 1) qs) =
    at_drop_more (put_after_all ps) qs n none c.loop-p-test.true in
    cc

pub returns : goal.returns
returns c =
    let ps = (writing c.loop-p.tray).points in
    let e : put_after_all ps (drop c.loop-p.p-index c.args.places.now) ≡ ps = at_drop_all (put_after_all ps) _ _ c.loop-p-test.false in
    ap (λ (s : State). s.points) c.lift.ensures.steps ∙ (sym e ∙ c.loop-p.invariant)
