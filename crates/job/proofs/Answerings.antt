-- What the strokes answered in turn leave on the answer page.
use Rattle.std.proofs.Common.{◌≡◌, ℕ, ◌+◌, ◌<◌, ◌≤◌, true, cond, leb, List, [], ◌∷◌, ◌++◌, map, length, take, drop, sym, refl, ap, ◌∙◌, subst, inl, inr, zero-add, arith, length-append, length-drop, length-take-le}
use Rattle.std.specs.List.{flat_map}
use Rattle.std.proofs.lemmas.Bool.{cases_Bool, leb-true, leb-false, le-leb, cond-true, cond-false}
use Rattle.page.specs.declared.fault.PageCause.TheVariants.{ShortPage}
use Rattle.page.specs.Faults.{told_at}
use Rattle.page.specs.Strokes.{Stroke}
use Rattle.page.specs.Steps.{Ending, refused_by, reading}
use Rattle.page.specs.Writes.{written}
use Rattle.page.proofs.Putting.{written_none, written_more}
use Rattle.page.proofs.Returning.{written_reads_back}
use Rattle.job.specs.Jobs.{record_of, Outcome, ended, answering, jobbed}
use Rattle.job.specs.Laws.{Ends, HoldsTheAnswers, OwnRecordsAlone}

pub written_length : (used : ℕ) (page bs : List ℕ) → used + length bs ≤ length page → length (written used page bs) ≡ length page
written_length used page bs h =
    let a = length-append (take used page) (bs ++ drop (used + length bs) page) in
    let b = length-append bs (drop (used + length bs) page) in
    let t = length-take-le used page (omega arith) in
    let d = length-drop (used + length bs) page in
    omega arith

room_left : (used : ℕ) (page bs : List ℕ) → used + length bs ≤ length page → used + length bs ≤ length (written used page bs)
room_left used page bs h = omega (arith, written_length used page bs h)

ends_at : (m k a b : ℕ) (rs : List (List ℕ)) (own e : Ending) → m ≡ k → a ≡ b → Ends m a rs own e → Ends k b rs own e
ends_at m k a b rs own e p q h = subst (λ x. Ends x b rs own e) p (subst (λ x. Ends m x rs own e) q h)

-- over any record of a stroke
module _ (rec : Stroke → List ℕ) where
  record Held (n used : ℕ) (out : List ℕ) (ss : List Stroke) (own : Ending) (o : Outcome) : Type 0 where
    pub first : List Stroke
    pub others : List Stroke
    pub strokes : ss ≡ first ++ others
    pub count : o.answered ≡ n + length first
    pub room : used + length (flat_map rec first) ≤ length out
    pub bytes : o.bytes ≡ written used out (flat_map rec first)
    pub ending : Ends (length out) (used + length (flat_map rec first)) (map rec others) own o.ending

  at_end : (n used : ℕ) (out : List ℕ) (own : Ending) → used ≤ length out → Held n used out [] own (ended n own out)
  at_end n used out own h = record {
    first = [];
    others = [];
    strokes = refl;
    count = omega arith;
    room = omega arith;
    bytes = written_none used out h;
    ending = refl;
  }

  full : (n used : ℕ) (out : List ℕ) (s : Stroke) (ss : List Stroke) (own : Ending) → used ≤ length out → length out < used + length (rec s) →
      Held n used out (s ∷ ss) own (ended n (refused_by (told_at ShortPage used)) out)
  full n used out s ss own h l =
      let z : used ≡ used + 0 = omega arith in
      record {
        first = [];
        others = s ∷ ss;
        strokes = refl;
        count = omega arith;
        room = omega arith;
        bytes = written_none used out h;
        ending = (ap (λ m. refused_by (told_at ShortPage m)) z, omega arith);
      }

  fits : (n used : ℕ) (out : List ℕ) (s : Stroke) (ss : List Stroke) (own : Ending) (o : Outcome) → used + length (rec s) ≤ length out →
      Held (n + 1) (used + length (rec s)) (written used out (rec s)) ss own o → Held n used out (s ∷ ss) own o
  fits n used out s ss own o h q =
      let size = written_length used out (rec s) h in
      let both = length-append (rec s) (flat_map rec q.first) in
      let r = q.room in
      let c = q.count in
      record {
        first = s ∷ q.first;
        others = q.others;
        strokes = ap (λ xs. s ∷ xs) q.strokes;
        count = omega arith;
        room = omega arith;
        bytes = q.bytes ∙ written_more used (used + length (rec s)) out (rec s) (flat_map rec q.first) refl (omega arith);
        ending = ends_at _ _ _ _ (map rec q.others) own o.ending size (omega arith) q.ending;
      }

  one_more : (n used : ℕ) (out : List ℕ) (s : Stroke) (ss : List Stroke) (own : Ending) (o : Outcome) → used ≤ length out →
      (used + length (rec s) ≤ length out → Held (n + 1) (used + length (rec s)) (written used out (rec s)) ss own o) →
      Held n used out (s ∷ ss) own (cond (leb (used + length (rec s)) (length out)) o (ended n (refused_by (told_at ShortPage used)) out))
  one_more n used out s ss own o h q =
      let P : Outcome → Type 0 = λ x. Held n used out (s ∷ ss) own x in
      elim (cases_Bool (leb (used + length (rec s)) (length out))) [
        | inl e ↦ let l = leb-true _ _ e in subst P (sym (cond-true _ _ _ e)) (fits n used out s ss own o l (q l))
        | inr e ↦ subst P (sym (cond-false _ _ _ e)) (full n used out s ss own h (leb-false _ _ e))
      ]

held : (n used : ℕ) (out : List ℕ) (ss : List Stroke) (own : Ending) → used ≤ length out → Held record_of n used out ss own (answering n used out ss own)
held n used out [] own h = at_end record_of n used out own h
held n used out (s ∷ ss) own h =
    one_more record_of n used out s ss own _ h (λ l. held (n + 1) _ _ ss own (room_left used out (record_of s) l))

pub holds_the_answers : (bs out : List ℕ) → HoldsTheAnswers bs out
holds_the_answers bs out =
    let q = held 0 0 out (reading bs).strokes (reading bs).ending (omega arith) in
    let size : ℕ = length (flat_map record_of q.first) in
    record {
      first = q.first;
      others = q.others;
      strokes = q.strokes;
      count = q.count ∙ zero-add (length q.first);
      room = subst (λ n. n ≤ length out) (zero-add size) q.room;
      bytes = q.bytes;
      ending = ends_at _ _ _ _ (map record_of q.others) (reading bs).ending (jobbed bs out).ending refl (zero-add size) q.ending;
    }

pub own_records_alone : OwnRecordsAlone
own_records_alone s out fits room =
    let t : leb (0 + length (record_of s)) (length out) ≡ true = ap (λ n. leb n (length out)) (zero-add (length (record_of s))) ∙ le-leb _ _ room in
    ap (λ r. answering 0 0 out r.strokes r.ending) (written_reads_back (s ∷ []) (fits, tt)) ∙ cond-true _ _ _ t
