-- What is printed of a reading, call by call of the job.
use Rattle.std.proofs.Common.{◌≡◌, ℕ, ◌+◌, ◌≤◌, false, ltb, List, [], ◌∷◌, ◌++◌, length, Some, None, Ok, Err, Option, Result, OnOk, refl, sym, ap, ◌∙◌, subst, append_assoc, append-nil, arith, length-append}
use Rattle.std.specs.List.{flat_map}
use Rattle.std.specs.Io.KnownBytes.{Appends}
use Rattle.std.specs.Result.{result_transpose}
use Rattle.std.proofs.lemmas.Bool.{le-leb, le-ltb, cond-true, cond-false}
use Rattle.std.proofs.lemmas.Bool.Decides.{nat_tests}
use Rattle.refusal.specs.declared.Told.{Told}
use Rattle.page.specs.Strokes.{Stroke, page_bytes}
use Rattle.page.specs.Steps.{Ending, accepted, refused_by}
use Rattle.page.specs.Writes.{written}
use Rattle.page.proofs.Returning.{written_reads_back}
use Rattle.page.specs.Faults.{step_told}
use Rattle.job.specs.declared.answered.Answered.{Answered}
use Rattle.job.specs.declared.job.Job.{Job}
use Rattle.job.specs.declared.job.JobFault.{JobFault}
use Rattle.job.specs.Jobs.{Line, Next, one_more, stopped_by, line, line_of, record_of, to_read, next_of, next_from, next_done}
use Rattle.job.proofs.Answerings.{written_length}
use Rattle.refusal.specs.Texts.{refusal_text}
use Rattle.lines.specs.Text.{line_text}
use Rattle.lines.specs.Output.{with_feed, stroke_text, ending_text, read_text, longest, LinesInTurn}

-- the first stroke left is answered, where the answers of all fit
answers_first : (s : Stroke) (ss : List Stroke) (e : Ending) (n used : ℕ) (out : List ℕ) → used + length (flat_map record_of (s ∷ ss)) ≤ length out →
    next_of (s ∷ ss) e n used out ≡ record {
      says = one_more (line_of s);
      remains = record { strokes = ss; ending = e };
      count = n + 1;
      used = used + length (record_of s);
      bytes = written used out (record_of s);
    }
answers_first s ss e n used out h =
    let part = length-append (record_of s) (flat_map record_of ss) in
    let t : used + length (record_of s) ≤ length out = omega arith in
    cond-true _ _ _ (le-leb _ _ t)

stop_text : (ss : List Stroke) (e : Ending) (n used : ℕ) (out : List ℕ) → used + length (flat_map record_of ss) ≤ length out →
    (m : ℕ) (t : Told) → (next_of ss e n used out).says ≡ stopped_by m t → read_text (record { strokes = ss; ending = e }) ≡ with_feed (refusal_text t)
stop_text [] accepted n used out h m t q = absurd (grind (arith, nat_tests))
stop_text [] (refused_by u) n used out h m t q = let p : u ≡ t = grind (arith, nat_tests) in ap (λ x. with_feed (refusal_text x)) p
stop_text (s ∷ ss) e n used out h m t q =
    let p : one_more (line_of s) ≡ stopped_by m t = sym (ap (λ x. x.says) (answers_first s ss e n used out h)) ∙ q in absurd (grind (arith, nat_tests))

one_text : (ss : List Stroke) (e : Ending) (n used : ℕ) (out : List ℕ) → used + length (flat_map record_of ss) ≤ length out →
    (l : Line) → (next_of ss e n used out).says ≡ one_more l →
    (read_text (record { strokes = ss; ending = e }) ≡ with_feed (line_text l) ++ read_text (next_of ss e n used out).remains)
    × ((next_of ss e n used out).used + length (flat_map record_of (next_of ss e n used out).remains.strokes) ≤ length (next_of ss e n used out).bytes)
one_text [] accepted n used out h l q = absurd (grind (arith, nat_tests))
one_text [] (refused_by u) n used out h l q = absurd (grind (arith, nat_tests))
one_text (s ∷ ss) e n used out h l q =
    let first = answers_first s ss e n used out h in
    let told : one_more (line_of s) ≡ one_more l = sym (ap (λ x. x.says) first) ∙ q in
    let same : line_of s ≡ l = cc in
    let part = length-append (record_of s) (flat_map record_of ss) in
    let size = written_length used out (record_of s) (omega arith) in
    let P : Next → Type 0 = λ x.
    (read_text (record { strokes = s ∷ ss; ending = e }) ≡ with_feed (line_text l) ++ read_text x.remains)
    × (x.used + length (flat_map record_of x.remains.strokes) ≤ length x.bytes) in
    subst P (sym first) (append_assoc (stroke_text s) (flat_map stroke_text ss) (ending_text e) ∙ ap (λ x. with_feed (line_text x) ++ read_text (record { strokes = ss; ending = e })) same, omega arith)

-- the answers of the strokes left fit the answer page
abbrev pub Room : Job → List ℕ → Type 0
Room j out = j.writer.used + length (flat_map record_of (to_read j).strokes) ≤ length out

module _ (j j' : Job) (out out' : List ℕ) (room : Room j out) where
  pub stopped : (f : JobFault) → next_done (Err f) j' out' ≡ next_from j out → read_text (to_read j) ≡ with_feed (refusal_text (step_told f.fault))
  stopped f e = stop_text (to_read j).strokes (to_read j).ending j.count j.writer.used out room _ _ (sym (ap (λ x. x.says) e))

  pub answered : (o : Option Answered) (a : Answered) → o ≡ Some a → next_done (Ok o) j' out' ≡ next_from j out →
      (read_text (to_read j) ≡ with_feed (line_text (line a)) ++ read_text (to_read j')) × Room j' out'
  answered o a i e =
      let e' = subst (λ x. next_done (Ok x) j' out' ≡ next_from j out) i e in
      let q = one_text (to_read j).strokes (to_read j).ending j.count j.writer.used out room (line a) (sym (ap (λ x. x.says) e')) in
      let P : Next → Type 0 = λ x.
      (read_text (to_read j) ≡ with_feed (line_text (line a)) ++ read_text x.remains) × (x.used + length (flat_map record_of x.remains.strokes) ≤ length x.bytes) in
      subst P (sym e') q

-- what a transposed answer was
pub some_ok : {A E : Type 0} (r : Result (Option A) E) (a : A) → result_transpose r ≡ Some (Ok a) → r ≡ Ok (Some a)
some_ok (Ok (Some x)) a e = let s : x ≡ a = cc in ap (λ y. Ok (Some y)) s
some_ok (Ok None) a e = let z : ◌≡◌ {A = ℕ} 0 1 = cc in absurd (omega arith)
some_ok (Err f) a e = let z : ◌≡◌ {A = ℕ} 0 1 = cc in absurd (omega arith)

pub some_err : {A E : Type 0} (r : Result (Option A) E) (f : E) → result_transpose r ≡ Some (Err f) → r ≡ Err f
some_err (Ok (Some x)) f e = let z : ◌≡◌ {A = ℕ} 0 1 = cc in absurd (omega arith)
some_err (Ok None) f e = let z : ◌≡◌ {A = ℕ} 0 1 = cc in absurd (omega arith)
some_err (Err g) f e = let s : g ≡ f = cc in ap Err s

-- what holds where a call succeeds
pub on_ok : {E P Q : Type 0} (r : Result (Unit {0}) E) → (P → Q) → OnOk r P → OnOk r Q
on_ok (Ok u) f h = f h
on_ok (Err e) f h = tt

pub put_same : {E : Type 0} (r : Result (Unit {0}) E) (old new : Option (List ℕ)) (bs whole : List ℕ) → bs ≡ whole → OnOk r (Appends old new bs) → OnOk r (Appends old new whole)
put_same r old new bs whole e p = subst (λ v. OnOk r (Appends old new v)) e p

-- what was put and what is left to put are the whole, where the bytes put are known
abbrev pub Left : Option (List ℕ) → Option (List ℕ) → List ℕ → List ℕ → Type 0
Left None now left whole = Unit {0}
Left (Some xs) None left whole = ⊥
Left (Some xs) (Some ys) left whole = ys ++ left ≡ xs ++ whole

-- one line more of what is left
pub line_more : (whole text text' line left left' : List ℕ) → text ++ left ≡ whole → text' ≡ text ++ line → left ≡ line ++ left' → text' ++ left' ≡ whole
line_more whole text text' line left left' p q r = ap (λ v. v ++ left') q ∙ append_assoc text line left' ∙ ap (λ v. text ++ v) (sym r) ∙ p

-- nothing is put yet
pub left_first : (old : Option (List ℕ)) (left whole : List ℕ) → left ≡ whole → Left old old left whole
left_first None left whole e = tt
left_first (Some xs) left whole e = ap (λ v. xs ++ v) e

pub left_more : (old now new : Option (List ℕ)) (whole line left left' : List ℕ) → Left old now left whole → Appends now new line → left ≡ line ++ left' → Left old new left' whole
left_more None now new whole line left left' p q r = tt
left_more (Some xs) None new whole line left left' p q r = absurd p
left_more (Some xs) (Some ys) None whole line left left' p q r = absurd q
left_more (Some xs) (Some ys) (Some zs) whole line left left' p q r = line_more (xs ++ whole) ys zs line left left' p q r

-- nothing is left to put
pub left_none : (old now : Option (List ℕ)) (left whole : List ℕ) → left ≡ [] → Left old now left whole → Appends old now whole
left_none None now left whole e p = tt
left_none (Some xs) None left whole e p = absurd p
left_none (Some xs) (Some ys) left whole e p = sym (append-nil ys) ∙ ap (λ v. ys ++ v) (sym e) ∙ p

pub left_last : (old now new : Option (List ℕ)) (whole line left : List ℕ) → Left old now left whole → left ≡ line → Appends now new line → Appends old new whole
left_last old now new whole line left p r q = left_none old new [] whole refl (left_more old now new whole line left [] p q (r ∙ sym (append-nil line)))

pub lines_in_turn : LinesInTurn
lines_in_turn ss fits h =
    let short : ltb longest (length (page_bytes ss)) ≡ false = le-ltb _ _ h in
    cond-false _ _ _ short ∙ ap read_text (written_reads_back ss fits) ∙ append-nil (flat_map stroke_text ss)
