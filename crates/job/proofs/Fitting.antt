-- The answers of a page are no longer than the page.
use Rattle.std.proofs.Common.{◌≡◌, ℕ, ◌+◌, ◌≤◌, List, [], ◌∷◌, ◌++◌, map, length, sym, ap, ◌∙◌, append-nil, arith, length-append, length-take-le}
use Rattle.std.specs.List.{flat_map, AllByRecursion}
use Rattle.page.specs.Strokes.{Stroke, stroke_bytes, page_bytes}
use Rattle.page.specs.Steps.{Ending, accepted, refused_by, reading}
use Rattle.page.specs.Fits.{Byte}
use Rattle.page.specs.Causes.{Verdict, open_bytes}
use Rattle.page.proofs.Judging.{judged}
use Rattle.job.specs.Jobs.{record_of, jobbed}
use Rattle.job.specs.Laws.{Ends, AnswersFit, FitsThePage}
use Rattle.job.proofs.Answerings.{holds_the_answers}
use Rattle.job.proofs.EachKind.{no_longer}

module _ (f g : Stroke → List ℕ) (le : (s : Stroke) → length (f s) ≤ length (g s)) where
  joined_le : (ss : List Stroke) → length (flat_map f ss) ≤ length (flat_map g ss)
  joined_le [] = omega arith
  joined_le (s ∷ ss) = omega (arith, length-append (f s) (flat_map f ss), length-append (g s) (flat_map g ss), le s, joined_le ss)

-- the first strokes and the next are part of all
joined_part : (f : Stroke → List ℕ) (ss : List Stroke) (s : Stroke) (rest : List Stroke) → length (flat_map f ss) + length (f s) ≤ length (flat_map f (ss ++ s ∷ rest))
joined_part f [] s rest = omega (arith, length-append (f s) (flat_map f rest))
joined_part f (x ∷ ss) s rest = omega (arith, length-append (f x) (flat_map f ss), length-append (f x) (flat_map f (ss ++ s ∷ rest)), joined_part f ss s rest)

-- the strokes of a page are part of its bytes
strokes_within : (bs : List ℕ) (ss : List Stroke) (e : Ending) → Verdict bs ss e → length (page_bytes ss) ≤ length bs
strokes_within bs ss accepted v = omega (arith, ap length v.0)
strokes_within bs ss (refused_by t) v =
    omega (arith, ap length v.before, length-append (page_bytes ss) (open_bytes v.state), length-take-le v.place bs v.within)

pub answers_fit : (bs : List ℕ) → AllByRecursion Byte bs → AnswersFit bs
answers_fit bs h =
    omega (
      arith,
      joined_le record_of stroke_bytes no_longer (reading bs).strokes,
      strokes_within bs (reading bs).strokes (reading bs).ending (judged bs h),
    )

-- where all records fit, no stroke is left
none_left : (f : Stroke → List ℕ) (all first others : List Stroke) (room : ℕ) (own e : Ending) →
    all ≡ first ++ others → length (flat_map f all) ≤ room → Ends room (length (flat_map f first)) (map f others) own e → (e ≡ own) × (length first ≡ length all)
none_left f all first [] room own e split h w = (w, ap length (sym (append-nil first) ∙ sym split))
none_left f all first (s ∷ rest) room own e split h w =
    absurd (omega (arith, joined_part f first s rest, ap (λ ss. length (flat_map f ss)) split, w.1))

pub fits_the_page : (bs out : List ℕ) → AllByRecursion Byte bs → FitsThePage bs out
fits_the_page bs out h l =
    let q = holds_the_answers bs out in
    let fit = answers_fit bs h in
    let w = none_left record_of (reading bs).strokes q.first q.others (length out) (reading bs).ending (jobbed bs out).ending q.strokes (omega arith) q.ending in
    (w.0, q.count ∙ w.1)
