-- Nothing but what is read is right to say of a page.
use Rattle.std.proofs.Common.{◌≡◌, ℕ, ◌+◌, ◌<◌, List, [], ◌∷◌, ◌++◌, length, drop, Ok, Err, Result, sym, refl, ap, ◌∙◌, append_assoc, append-nil, arith, length-append, take-append-drop, length-take-le}
use Rattle.refusal.specs.declared.Told.{Told}
use Rattle.refusal.specs.declared.Layer.TheVariants.{Page}
use Rattle.refusal.specs.Said.{at_layer}
use Rattle.page.specs.declared.fault.PageCause.{PageCause}
use Rattle.page.specs.declared.fault.PageCause.TheVariants.{CutRecord, StrangeKind, WrongLength, OutOfPlace, WrongCode, ShortPage}
use Rattle.page.specs.declared.kinds.Part.{Part}
use Rattle.page.specs.declared.kinds.Part.TheVariants.{Outside, Inside}
use Rattle.page.specs.declared.kinds.Step.{Step}
use Rattle.page.specs.Faults.{number_of, told_at}
use Rattle.page.specs.Records.{Front, bad, one, front}
use Rattle.page.specs.Strokes.{Stroke, page_bytes}
use Rattle.page.specs.Steps.{State, part_of, accepted, refused_by, meant, stays, passes, at_front, stepped, read_on, read_from, reading}
use Rattle.page.specs.Causes.{Holds, Stops, open_bytes, RefusedFirst, Alone}
use Rattle.page.proofs.Refusing.{front_bad}
use Rattle.page.proofs.Stepping.{read_step}
use Rattle.page.proofs.Returning.{behind, read_open, read_strokes, written_reads_back}
use Rattle.page.proofs.Causing.{Judge, judge}

-- two causes that stop at one place are told alike
told_alike : (place : ℕ) (part : Part) (bs : List ℕ) (c d : PageCause) → Stops c part bs → Stops d part bs → told_at c place ≡ told_at d place
told_alike place part bs c d p q =
    let up : number_of c < number_of d → ⊥ = λ l. q.first c l p.holds in
    let down : number_of d < number_of c → ⊥ = λ l. p.first d l q.holds in
    let same : number_of c ≡ number_of d = omega (arith, up, down) in
    ap (λ n. at_layer Page n place) same

at_end : (place : ℕ) (part : Part) (c : PageCause) → Holds c part [] → stepped place part [] ≡ stays place part [] (Err (told_at c place))
at_end place part CutRecord h = absurd (omega (arith, h.0))
at_end place part StrangeKind h = absurd (omega (arith, h.0))
at_end place part WrongLength h = absurd (omega (arith, h.0))
at_end place Outside OutOfPlace h = absurd (omega (arith, h.0))
at_end place Inside OutOfPlace h = refl
at_end place part WrongCode h = absurd (omega (arith, h.0))
at_end place part ShortPage h = absurd h

-- where a cause stops the reading, the step is refused by it
step_stops : (place : ℕ) (part : Part) (bs : List ℕ) (c : PageCause) → Stops c part bs → stepped place part bs ≡ stays place part bs (Err (told_at c place))
step_stops place part [] c p = at_end place part c p.holds
step_stops place part (x ∷ xs) c p = go (front (x ∷ xs)) refl
  where
    go : (f : Front) → front (x ∷ xs) ≡ f → at_front place part (x ∷ xs) f ≡ stays place part (x ∷ xs) (Err (told_at c place))
    go (bad d) e = ap (λ t. stays place part (x ∷ xs) (Err t)) (told_alike place part (x ∷ xs) d c (front_bad part x xs d e) p)
    go (one r left) e = refused (meant place part r) (judge place part (x ∷ xs) r left e)
      where
        refused : (a : Result Step Told) → Judge place part (x ∷ xs) a → passes place part (x ∷ xs) r left a ≡ stays place part (x ∷ xs) (Err (told_at c place))
        refused (Ok y) j = absurd (j c p.holds)
        refused (Err t) j = ap (λ u. stays place part (x ∷ xs) (Err u)) (j.1.0 ∙ told_alike place part (x ∷ xs) j.0 c j.1.1 p)

read_stops : (place : ℕ) (s : State) (bs : List ℕ) (c : PageCause) → Stops c (part_of s) bs → read_from place s bs ≡ record { strokes = []; ending = refused_by (told_at c place) }
read_stops place s bs c p = read_step place s bs ∙ ap (read_on s read_from) (step_stops place (part_of s) bs c p)

refused_alone : (bs : List ℕ) (ss : List Stroke) (t : Told) → RefusedFirst bs ss t → reading bs ≡ record { strokes = ss; ending = refused_by t }
refused_alone bs ss t w =
    let place : ℕ = w.place in
    let s : State = w.state in
    let left : List ℕ = drop place bs in
    let whole : bs ≡ page_bytes ss ++ (open_bytes s ++ left) = sym (take-append-drop place bs) ∙ ap (λ l. l ++ left) w.before ∙ append_assoc (page_bytes ss) (open_bytes s) left in
    let long = length-take-le place bs w.within in
    let both = ap length w.before ∙ length-append (page_bytes ss) (open_bytes s) in
    let at : 0 + length (page_bytes ss) + length (open_bytes s) ≡ place = omega arith in
    ap reading whole
    ∙ read_strokes 0 ss (open_bytes s ++ left) w.strokes_fit
    ∙ ap (behind ss) (read_open (0 + length (page_bytes ss)) s left w.open_fits ∙ ap (λ m. read_from m s left) at ∙ read_stops place s left w.cause w.stops ∙ ap (λ u. record { strokes = []; ending = refused_by u }) (sym w.told))
    ∙ ap (λ l. record { strokes = l; ending = refused_by t }) (append-nil ss)

pub alone : (bs : List ℕ) → Alone bs
alone bs ss accepted v = ap reading v.0 ∙ written_reads_back ss v.1
alone bs ss (refused_by t) w = refused_alone bs ss t w
