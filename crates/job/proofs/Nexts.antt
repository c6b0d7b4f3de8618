-- What one call of a job tells, by what it leaves.
use Rattle.std.proofs.Common.{◌≡◌, ℕ, ◌+◌, true, List, [], ◌∷◌, drop, is_some, Some, None, Ok, Err, Option, sym, ap, ◌∙◌, subst, arith, drop-drop}
use Rattle.std.proofs.lemmas.Bool.Decides.{nat_tests}
use Rattle.refusal.specs.declared.Told.{Told}
use Rattle.page.specs.Strokes.{Stroke}
use Rattle.page.specs.Steps.{Ending, accepted, refused_by}
use Rattle.job.specs.declared.answered.Answered.{Answered}
use Rattle.job.specs.declared.job.Job.{Job}
use Rattle.job.specs.declared.job.JobFault.{JobFault}
use Rattle.job.specs.Jobs.{Line, one_more, stopped_by, line, next_of, next_done, to_read, OnSide, Side, RunSide}

-- a refusal stands beside the count
pub stopped_count : (ss : List Stroke) (e : Ending) (n used : ℕ) (out : List ℕ) (m : ℕ) (t : Told) → (next_of ss e n used out).says ≡ stopped_by m t → m ≡ n
stopped_count [] accepted n used out m t h = grind (arith, nat_tests)
stopped_count [] (refused_by u) n used out m t h = grind (arith, nat_tests)
stopped_count (s ∷ ss) e n used out m t h = grind (arith, nat_tests)

-- an answered stroke leaves the others
pub answered_leaves : (ss : List Stroke) (e : Ending) (n used : ℕ) (out : List ℕ) (l : Line) → (next_of ss e n used out).says ≡ one_more l →
    ((next_of ss e n used out).remains.strokes ≡ drop 1 ss) × ((next_of ss e n used out).count ≡ n + 1)
answered_leaves [] accepted n used out l h = grind (arith, nat_tests)
answered_leaves [] (refused_by u) n used out l h = grind (arith, nat_tests)
answered_leaves (s ∷ ss) e n used out l h = grind (arith, nat_tests)

module _ (all ss : List Stroke) (e : Ending) (n used : ℕ) (out : List ℕ) (j : Job) (out' : List ℕ) (left : ss ≡ drop n all) where
  pub leaves_on : (a : Option Answered) → is_some a ≡ true → next_done (Ok a) j out' ≡ next_of ss e n used out → (to_read j).strokes ≡ drop j.count all
  leaves_on None s h = absurd (grind (arith, nat_tests))
  leaves_on (Some a) s h =
      let q = answered_leaves ss e n used out (line a) (sym (ap (λ x. x.says) h)) in
      let c : j.count ≡ n + 1 = ap (λ x. x.count) h ∙ q.1 in
      ap (λ x. x.remains.strokes) h ∙ q.0 ∙ ap (λ xs. drop 1 xs) left ∙ drop-drop 1 n all ∙ ap (λ k. drop k all) (sym c)

  pub stops_on_side : (f : JobFault) → Side ss (Err f) → next_done (Err f) j out' ≡ next_of ss e n used out → RunSide all (Err f)
  stops_on_side f s h =
      let m = stopped_count ss e n used out f.appended _ (sym (ap (λ x. x.says) h)) in
      subst (λ xs. OnSide xs f.fault) (left ∙ ap (λ k. drop k all) (sym m)) s
