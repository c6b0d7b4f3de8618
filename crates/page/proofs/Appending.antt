-- What was appended reads back behind what stood there.
use Rattle.std.proofs.Common.{◌≡◌, ℕ, ◌+◌, ◌≤◌, List, [], ◌∷◌, ◌++◌, length, take, drop, sym, ap, ◌∙◌, subst, append_assoc, arith, length-append, length-take-le}
use Rattle.std.specs.List.{AllByRecursion}
use Rattle.std.proofs.lemmas.List.{take_at, flat_map_more}
use Rattle.std.proofs.ByRecursion.{All-take, All-push}
use Rattle.page.specs.Strokes.{Stroke, stroke_bytes}
use Rattle.page.specs.Fits.{Byte, StrokeFits}
use Rattle.page.specs.Steps.{accepted, reading}
use Rattle.page.specs.Causes.{Verdict}
use Rattle.page.specs.Writes.{written}
use Rattle.page.specs.Appends.{OneMore}
use Rattle.page.proofs.Judging.{judged}
use Rattle.page.proofs.Returning.{written_reads_back}

written_front : (used : ℕ) (page bs : List ℕ) → used ≤ length page → take (used + length bs) (written used page bs) ≡ take used page ++ bs
written_front used page bs h =
    let n = length-append (take used page) bs in
    let t = length-take-le used page h in
    ap (take (used + length bs)) (sym (append_assoc (take used page) bs (drop (used + length bs) page)))
    ∙ take_at (take used page ++ bs) (drop (used + length bs) page) (used + length bs) (omega arith)

pub one_more : (used n : ℕ) (page out : List ℕ) (s : Stroke) → used ≤ length page → n ≡ used + length (stroke_bytes s) → out ≡ written used page (stroke_bytes s) → StrokeFits s → AllByRecursion Byte out → OneMore used page s n out
one_more used n page out s room count bytes fits h ss e =
    let kept : take used out ≡ take used page = ap (take used) bytes ∙ take_at (take used page) (stroke_bytes s ++ drop (used + length (stroke_bytes s)) page) used (length-take-le used page room) in
    let front : AllByRecursion Byte (take used page) = subst (AllByRecursion Byte) kept (All-take Byte used out h) in
    let v : Verdict (take used page) ss accepted = subst (λ r. Verdict (take used page) r.strokes r.ending) e (judged (take used page) front) in
    (λ i. reading (take (count i) (bytes i)))
    ∙ ap reading (written_front used page (stroke_bytes s) room ∙ ap (λ l. l ++ stroke_bytes s) v.0 ∙ flat_map_more stroke_bytes [] ss s)
    ∙ written_reads_back (ss ++ s ∷ []) (All-push StrokeFits ss s v.1 fits)
