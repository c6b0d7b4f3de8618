-- A reading, step by step.
use Rattle.std.proofs.Common.{◌≡◌, ℕ, zero, suc, ◌+◌, ◌<◌, List, [], ◌∷◌, ◌++◌, length, Ok, Err, Result, sym, refl, ap, ◌∙◌, subst, arith}
use Rattle.std.proofs.lemmas.Bool.{cond_both}
use Rattle.refusal.specs.declared.Told.{Told}
use Rattle.page.specs.declared.fault.PageCause.{PageCause}
use Rattle.page.specs.declared.fault.PageCause.TheVariants.{WrongCode}
use Rattle.page.specs.declared.kinds.Point.{Point}
use Rattle.page.specs.declared.kinds.Part.{Part}
use Rattle.page.specs.declared.kinds.Part.TheVariants.{Outside, Inside}
use Rattle.page.specs.declared.kinds.Step.{Step}
use Rattle.page.specs.declared.kinds.Step.TheVariants.{Begin, Point as Next, Finish, End}
use Rattle.page.specs.Faults.{told_at}
use Rattle.page.specs.Records.{Rec, start_rec, plain_rec, corner_rec, order_rec, size_of, Front, bad, one, front}
use Rattle.page.specs.Strokes.{stroke_of, order_of, codes}
use Rattle.page.specs.Codes.{coded, known_order}
use Rattle.page.specs.Steps.{meant, part_before, part_after, Stepped, stays, passes, at_end, at_front, stepped, State, outside, inside, state_of, part_of, Reading, onward, read_on, read_by, read_from}
use Rattle.page.specs.Walks.{Falls, Parts}
use Rattle.page.proofs.Framing.{never, front_less}

-- EVERY RECORD LEAVES FEWER BYTES

passes_falls : (place : ℕ) (part : Part) (bs : List ℕ) (r : Rec) (left : List ℕ) (a : Result Step Told) → length left < length bs → Falls (length (passes place part bs r left a).rest) (length bs) (passes place part bs r left a).answer
passes_falls place part bs r left (Ok (Begin n)) h = h
passes_falls place part bs r left (Ok (Next p)) h = h
passes_falls place part bs r left (Ok (Finish o)) h = h
passes_falls place part bs r left (Ok End) h = tt
passes_falls place part bs r left (Err t) h = tt

front_falls : (place : ℕ) (part : Part) (bs : List ℕ) (x : Front) → front bs ≡ x → Falls (length (at_front place part bs x).rest) (length bs) (at_front place part bs x).answer
front_falls place part bs (bad c) e = tt
front_falls place part bs (one r left) e = passes_falls place part bs r left (meant place part r) (front_less bs r left e)

step_falls : (place : ℕ) (part : Part) (bs : List ℕ) → Falls (length (stepped place part bs).rest) (length bs) (stepped place part bs).answer
step_falls place Outside [] = tt
step_falls place Inside [] = tt
step_falls place part (b ∷ bs) = front_falls place part (b ∷ bs) (front (b ∷ bs)) refl

-- EVERY STEP IS MADE WHERE IT BELONGS

abbrev Made : Part → Result Step Told → Type 0
Made part (Ok s) = part ≡ part_before s
Made part (Err t) = Unit {0}

meant_made : (place : ℕ) (part : Part) (r : Rec) → Made part (meant place part r)
meant_made place Outside (start_rec p) = refl
meant_made place Outside (plain_rec p) = tt
meant_made place Outside (corner_rec p) = tt
meant_made place Outside (order_rec p) = tt
meant_made place Inside (start_rec p) = tt
meant_made place Inside (plain_rec p) = refl
meant_made place Inside (corner_rec p) = refl
meant_made place Inside (order_rec p) = cond_both (codes (order_of p)) (Ok (Finish (known_order (order_of p)))) (Err (told_at WrongCode place)) (Made Inside) (λ _. refl) (λ _. tt)

passes_parts : (place : ℕ) (part : Part) (bs : List ℕ) (r : Rec) (left : List ℕ) (a : Result Step Told) → Made part a → Parts part (passes place part bs r left a).part (passes place part bs r left a).answer
passes_parts place part bs r left (Ok s) h = (h, refl)
passes_parts place part bs r left (Err t) h = refl

front_parts : (place : ℕ) (part : Part) (bs : List ℕ) (x : Front) → Parts part (at_front place part bs x).part (at_front place part bs x).answer
front_parts place part bs (bad c) = refl
front_parts place part bs (one r left) = passes_parts place part bs r left (meant place part r) (meant_made place part r)

step_parts : (place : ℕ) (part : Part) (bs : List ℕ) → Parts part (stepped place part bs).part (stepped place part bs).answer
step_parts place Outside [] = (refl, refl)
step_parts place Inside [] = refl
step_parts place part (b ∷ bs) = front_parts place part (b ∷ bs) (front (b ∷ bs))

-- HOW MANY STEPS ARE ALLOWED DOES NOT MATTER, ONCE THEY ARE ENOUGH

same_onward : (s : State) (f g : State → Reading) (new old : ℕ) (a : Result Step Told) → Falls new old a → (new < old → (s' : State) → f s' ≡ g s') → onward s f a ≡ onward s g a
same_onward s f g new old (Ok (Begin n)) l h = h l (inside n [])
same_onward (outside) f g new old (Ok (Next p)) l h = h l outside
same_onward (inside n ps) f g new old (Ok (Next p)) l h = h l (inside n (ps ++ p ∷ []))
same_onward outside f g new old (Ok (Finish o)) l h = h l outside
same_onward (inside n ps) f g new old (Ok (Finish o)) l h = ap (λ r. record { strokes = stroke_of n ps (coded o) ∷ r.strokes; ending = r.ending }) (h l outside)
same_onward s f g new old (Ok End) l h = refl
same_onward s f g new old (Err t) l h = refl

turns : (f g place : ℕ) (s : State) (bs : List ℕ) → length bs < f → length bs < g → read_by f place s bs ≡ read_by g place s bs
unfolding read_by
turns zero g place s bs p q = absurd (omega arith)
turns (suc f) zero place s bs p q = absurd (omega arith)
turns (suc f) (suc g) place s bs p q =
    let x : Stepped = stepped place (part_of s) bs in
    same_onward s (λ s'. read_by f x.place s' x.rest) (λ s'. read_by g x.place s' x.rest) (length x.rest) (length bs) x.answer (step_falls place (part_of s) bs) (λ l s'. turns f g x.place s' x.rest (omega arith) (omega arith))

pub read_step : (place : ℕ) (s : State) (bs : List ℕ) → read_from place s bs ≡ read_on s read_from (stepped place (part_of s) bs)
unfolding read_by read_from
read_step place s bs =
    let x : Stepped = stepped place (part_of s) bs in
    same_onward s (λ s'. read_by (length bs) x.place s' x.rest) (λ s'. read_from x.place s' x.rest) (length x.rest) (length bs) x.answer (step_falls place (part_of s) bs) (λ l s'. turns (length bs) (suc (length x.rest)) x.place s' x.rest l (omega arith))

-- ONE STEP OF A WALK

part_state : (part : Part) (n : ℕ) (ps : List Point) → part_of (state_of part n ps) ≡ part
part_state Outside n ps = refl
part_state Inside n ps = refl

module _ (place : ℕ) (part : Part) (bs : List ℕ) (x : Stepped) (e : x ≡ stepped place part bs) where
  pub reads_on : (n : ℕ) (ps : List Point) → read_from place (state_of part n ps) bs ≡ read_on (state_of part n ps) read_from x
  reads_on n ps =
      read_step place (state_of part n ps) bs ∙ ap (λ y. read_on (state_of part n ps) read_from (stepped place y bs)) (part_state part n ps) ∙ sym (ap (read_on (state_of part n ps) read_from) e)

  pub falls_on : Falls (length x.rest) (length bs) x.answer
  falls_on = subst (λ y. Falls (length y.rest) (length bs) y.answer) (sym e) (step_falls place part bs)

  pub parts_on : Parts part x.part x.answer
  parts_on = subst (λ y. Parts part y.part y.answer) (sym e) (step_parts place part bs)

-- a record that says something
pub step_one : (place next : ℕ) (part : Part) (bs : List ℕ) (r : Rec) (left : List ℕ) (s : Step) → front bs ≡ one r left → next ≡ place + (4 + size_of r) → meant place part r ≡ Ok s → ◌≡◌ {A = Stepped} (record { answer = Ok s; place = next; part = part_after s; rest = left }) (stepped place part bs)
step_one place next part [] r left s e p m = never e
step_one place next part (b ∷ bs) r left s e p m =
    (λ i. record { answer = Ok s; place = p i; part = part_after s; rest = left }) ∙ sym (ap (passes place part (b ∷ bs) r left) m) ∙ sym (ap (at_front place part (b ∷ bs)) e)

-- a record that is refused where it stands
pub step_refused : (place : ℕ) (part : Part) (bs : List ℕ) (r : Rec) (left : List ℕ) (t : Told) → front bs ≡ one r left → meant place part r ≡ Err t → stays place part bs (Err t) ≡ stepped place part bs
step_refused place part [] r left t e m = never e
step_refused place part (b ∷ bs) r left t e m = sym (ap (passes place part (b ∷ bs) r left) m) ∙ sym (ap (at_front place part (b ∷ bs)) e)

-- a record that is not read
pub step_bad : (place : ℕ) (part : Part) (bs : List ℕ) (c : PageCause) → 0 < length bs → front bs ≡ bad c → stays place part bs (Err (told_at c place)) ≡ stepped place part bs
step_bad place part [] c h e = absurd (omega arith)
step_bad place part (b ∷ bs) c h e = sym (ap (at_front place part (b ∷ bs)) e)

-- the end of the page
pub step_end : (place : ℕ) (part : Part) (bs : List ℕ) (a : Result Step Told) → length bs ≡ 0 → a ≡ at_end place part → stays place part bs a ≡ stepped place part bs
step_end place part [] a h e = ap (stays place part []) e
step_end place part (b ∷ bs) a h e = absurd (omega arith)
