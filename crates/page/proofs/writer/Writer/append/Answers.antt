-- Start, points and order stand one after another.
use Rattle.std.proofs.Common.{◌≡◌, ℕ, ◌+◌, ◌*◌, ◌≤◌, List, ◌++◌, length, take, pos, Err, sym, refl, ap, ◌∙◌, subst, append_assoc, arith, length-append, rules}
use borrow.Author.Tests.{true-leb}
use Rattle.std.specs.List.{flat_map, AllByRecursion}
use Rattle.std.proofs.lemmas.Bool.{cond-true}
use Rattle.std.proofs.lemmas.List.{take_all}
use Rattle.std.proofs.ByRecursion.{All-more, All-from_get_or}
use Rattle.tray.specs.declared.point.Mark.TheVariants.{Plain}
use Rattle.page.specs.declared.kinds.Point.{Point}
use Rattle.page.specs.Strokes.{Stroke, stroke_of, start_bytes, point_bytes, order_bytes, stroke_bytes}
use Rattle.page.specs.Fits.{Byte, PointFits, StrokeFits}
use Rattle.page.specs.Writes.{written}
use Rattle.page.specs.Appends.{outcome}
use Rattle.page.proofs.Putting.{put_after, joined_length, put_more, point_length, stroke_length, appends_short, appends_fits}
use Rattle.page.proofs.Coding.{codes_known}
use Rattle.page.proofs.Appending.{one_more}
use Rattle.page.proofs.writer.Writer.append.Goals as goal

pub returns-then-not-has_room-clause-appends : goal.returns-then-not-has_room-clause-appends
returns-then-not-has_room-clause-appends c =
    let s : Stroke = stroke_of c.args.number c.args.points.now c.args.order in
    let ok = codes_known c.args.order c.try_from.result c.try_from.ensures (sym c.if-is_err.ensures.value) in
    ap (λ f. outcome (Err f) c.args.self.now.used c.args.page.now) c.at-then-not-has_room.ensures ∙ appends_short c.args.self.now.used _ c.args.page.now (stroke_bytes s) (stroke_length s) c.if-not-has_room.ensures ∙ sym (cond-true _ _ _ ok)

-- what a point is read as where there is none
abbrev origin : Point
origin = record { x = pos 0; y = pos 0; t = 0; mark = Plain }

pub loop-k-preserved : goal.loop-k-preserved
loop-k-preserved c =
    let start : ℕ = c.args.self.now.used + 8 in
    let ps : List Point = c.args.points.now in
    let k : ℕ = c.loop-k.k in
    let first : List ℕ = c.put.new.page in
    let room = true-leb _ _ c.if-not-has_room.ensures in
    let enough : start + 12 * k + 12 ≤ length first = omega arith in (
      c.put-in-loop-k.ensures ∙ put_more point_bytes 12 point_length ps k origin start (start + 12 * k) c.loop-k.page first c.point_record.result c.loop-k-test.true refl enough c.loop-k.invariant.0 c.point_record.ensures.bytes,
      All-more PointFits ps k origin c.loop-k-test.true c.loop-k.invariant.1 c.point_record.ensures.fits,
    )

pub returns : goal.returns
returns c =
    let used : ℕ = c.args.self.now.used in
    let at : ℕ = used + 8 + 12 * length c.args.points.now in
    let page : List ℕ = c.args.page.now in
    let first : List ℕ = c.put.new.page in
    let ps : List Point = c.args.points.now in
    let s : Stroke = stroke_of c.args.number ps c.args.order in
    let a : List ℕ = start_bytes c.args.number in
    let b : List ℕ = flat_map point_bytes ps in
    let room = true-leb _ _ c.if-not-has_room.ensures in
    let n = joined_length point_bytes 12 point_length ps in
    let ab = length-append a b in
    let all : take c.loop-k.k ps ≡ ps = take_all c.loop-k.k ps (omega (arith, c.loop-k-test.false)) in
    let ok = codes_known c.args.order c.try_from.result c.try_from.ensures (sym c.if-is_err.ensures.value) in
    let points : c.loop-k.page ≡ written used page (a ++ b) = put_after used (used + 8) page first c.loop-k.page a b b (c.put.ensures ∙ ap (written used page) c.start_record.ensures) (c.loop-k.invariant.0 ∙ ap (λ l. written (used + 8) first (flat_map point_bytes l)) all) refl refl (omega arith) in
    let bytes : c.put-2.new.page ≡ written used page (stroke_bytes s) = put_after used at page c.loop-k.page c.put-2.new.page (a ++ b) (order_bytes c.args.order) c.order_record.result points c.put-2.ensures c.order_record.ensures (omega arith) (omega arith) ∙ ap (written used page) (append_assoc a b (order_bytes c.args.order)) in
    let fits : StrokeFits s = record {
      number = c.ranges.number.fits;
      points = subst (AllByRecursion PointFits) all c.loop-k.invariant.1;
      span = search rules;
      tolerance = search rules;
      codes = ok;
    } in
    let len = stroke_length s in
    record {
      appends = appends_fits used (26 + 12 * length ps) page (stroke_bytes s) len (at + 18) c.put-2.new.page c.if-not-has_room.ensures (omega arith) bytes ∙ sym (cond-true _ _ _ ok);
      reads = one_more used (at + 18) page c.put-2.new.page s (omega arith) (omega arith) bytes fits (All-from_get_or Byte c.put-2.new.page 0 (λ i _. (c.type_inv.page i).fits));
    }
