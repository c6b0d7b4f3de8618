-- Marks set one by one are the marks of all.
use Rattle.std.proofs.Common.{◌≡◌, ℕ, zero, suc, ◌+◌, ◌-◌, ◌<◌, ◌≤◌, List, [], ◌∷◌, map, length, get_or, take, set, sym, refl, ap, ◌∙◌, inl, inr, arith}
use Rattle.std.proofs.lemmas.Bool.Decides.{nat_tests}
use Rattle.std.proofs.lemmas.List.{set_past}
use Rattle.std.proofs.lemmas.Bool.{cases_Bool, cond-true, cond-false}
use Rattle.tray.specs.declared.point.Point.{Point}
use Rattle.tray.specs.declared.point.Mark.{Mark}
use Rattle.tray.specs.declared.point.Mark.TheVariants.{Plain, Corner}
use Rattle.tray.specs.Stroke.{at}
use Rattle.tray.specs.Machine.{marked, mark_after, lacks}
use Rattle.page.specs.declared.kinds.Point.{Point as Dot}
use Rattle.job.specs.Answer.{plain_of, point_of}
use Rattle.job.specs.Marking.{corner_if, cornered_by, marked_at}

pub one_mark : (qs : List Point) (k : ℕ) → mark_after Corner qs (k + 1) ≡ marked_at Corner qs k
one_mark qs k = elim (cases_Bool (lacks qs (k + 1))) [
  | inl e ↦ let h : length qs ≤ k = grind (arith, nat_tests) in cond-true _ _ _ e ∙ sym (set_past qs k (marked Corner (at qs k)) h)
  | inr e ↦ let h : k + 1 - 1 ≡ k = omega arith in cond-false _ _ _ e ∙ ap (λ i. set qs i (marked Corner (at qs i))) h
]

none_there : (m : Mark) (k : ℕ) → marked_at m [] k ≡ []
none_there Plain k = refl
none_there Corner k = refl

at_first : (m : Mark) (q : Point) (qs : List Point) → marked_at m (q ∷ qs) 0 ≡ corner_if m q ∷ qs
at_first Plain q qs = refl
at_first Corner q qs = refl

at_next : (m : Mark) (q : Point) (qs : List Point) (k : ℕ) → marked_at m (q ∷ qs) (suc k) ≡ q ∷ marked_at m qs k
at_next Plain q qs k = refl
at_next Corner q qs k = refl

more : (ms : List Mark) (qs : List Point) (k : ℕ) (d : Mark) → k < length ms → marked_at (get_or ms k d) (cornered_by (take k ms) qs) k ≡ cornered_by (take (suc k) ms) qs
more [] qs k d h = absurd (omega arith)
more (m ∷ ms) [] zero d h = none_there m 0
more (m ∷ ms) (q ∷ qs) zero d h = at_first m q qs
more (m ∷ ms) [] (suc k) d h = none_there (get_or ms k d) (suc k)
more (m ∷ ms) (q ∷ qs) (suc k) d h = at_next (get_or ms k d) (corner_if m q) (cornered_by (take k ms) qs) k ∙ ap (λ rs. corner_if m q ∷ rs) (more ms qs k d (omega arith))

pub marks_more : (ms : List Mark) (qs : List Point) (k : ℕ) (d : Mark) → k < length ms → marked_at (get_or ms k d) (cornered_by (take k ms) qs) k ≡ cornered_by (take (k + 1) ms) qs
marks_more ms qs k d h = let e : suc k ≡ k + 1 = omega arith in more ms qs k d h ∙ ap (λ n. cornered_by (take n ms) qs) e

corner_plain : (m : Mark) (p : Dot) → corner_if m (plain_of p) ≡ marked m (plain_of p)
corner_plain Plain p = refl
corner_plain Corner p = refl

-- the points of a page, plain, with their marks set
pub all_marks : (ps : List Dot) → cornered_by (map (λ p. p.mark) ps) (map plain_of ps) ≡ map point_of ps
all_marks [] = refl
all_marks (p ∷ ps) = ap (λ q. q ∷ cornered_by (map (λ d. d.mark) ps) (map plain_of ps)) (corner_plain p.mark p) ∙ ap (λ qs. point_of p ∷ qs) (all_marks ps)
