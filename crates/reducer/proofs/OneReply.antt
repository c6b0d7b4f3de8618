-- What is right and exact leaves one reply.
use Rattle.std.proofs.Common.{◌≡◌, ℕ, ◌<◌, ◌≤◌, ◌⊎◌, Bool, List, length, sym, ap, ◌∙◌, inl, inr, ⊎_elim, arith}
use Rattle.std.proofs.lemmas.Bool.{cases_lt, cases_order}
use Rattle.refusal.specs.declared.Told.{Told}
use Rattle.refusal.specs.declared.Layer.TheVariants.{Tray}
use Rattle.refusal.specs.Said.{at_layer}
use Rattle.tray.specs.declared.point.Point.{Point}
use Rattle.tray.specs.Reductions.{Reduction, Reply, answered, refused}
use Rattle.total.specs.Laws.{limit}
use Rattle.reducer.specs.Law.{Best, Turns, Kept, first, next, Searched, Right}
use Rattle.reducer.specs.Exact.{RefusedBy, Exact, BarsOthers, replying, SameReply, OneReply}
use Rattle.reducer.proofs.Worthlesses.{one_kept}

-- the kept chain does not depend on the reply
module _ (stroke : List Point) (r : Reduction) where
  best_as : (x y : Reply) {ks es : List ℕ} {j : ℕ} → Best stroke (replying r x) ks j es → Best stroke (replying r y) ks j es
  best_as x y h = record { lawful = h.lawful; fewest = h.fewest; least = h.least }

  turns_as : (x y : Reply) {i j : ℕ} → Turns stroke (replying r x) i j → Turns stroke (replying r y) i j
  turns_as x y u = record { points = u.points; errors = u.errors; error = u.error; best = best_as x y u.best; chord = u.chord; turned = best_as x y u.turned }

  kept_as : (x y : Reply) {ks : List ℕ} {j : ℕ} → Kept stroke (replying r x) ks j → Kept stroke (replying r y) ks j
  kept_as x y first = first
  kept_as x y (next q u f) = next (kept_as x y q) (turns_as x y u) (λ h l v. f h l (turns_as y x v))

refused_same : (x y : Reply) (n p : ℕ) → RefusedBy n p x → RefusedBy n p y → SameReply x y
refused_same (refused t) (refused u) n p a b = a ∙ sym b
refused_same (refused t) (answered ls m u) n p a b = b
refused_same (answered ks m t) y n p a b = absurd a

is_nine : (n : ℕ) → (n ≡ 9) ⊎ (n ≡ 9 → ⊥)
is_nine n = ⊎_elim (λ e. inl e) (λ o. inr (λ e. ⊎_elim (λ (l : n < 9). omega arith) (λ (l : 9 < n). omega arith) o)) (cases_order n 9)

module _ (stroke : List Point) (r : Reduction) (within : BarsOthers stroke r) where
  abbrev Rightly : Reply → Type 0
  Rightly x = Right stroke (replying r x) × Exact stroke (replying r x)

  same_kept : (x y : Reply) (ks ls : List ℕ) → Kept stroke (replying r x) ks (length stroke) → Kept stroke (replying r y) ls (length stroke) → ks ≡ ls
  same_kept x y ks ls a b = one_kept stroke (replying r x) within ks ls (length stroke) a (kept_as stroke r y x b)

  -- an answer and a refusal do not both fit one reduce
  one_answered : (ks : List ℕ) (m : ℕ) (t : List ℕ → Bool) (u : Told) → Searched stroke r → Rightly (answered ks m t) → Rightly (refused u) → ⊥
  one_answered ks m t u s p q =
      let k = p.0.keeps in
      ⊎_elim (λ a. a)
      (λ w. let e = same_kept (answered ks m t) (refused u) ks w.0.0 k.kept_chain w.0.1.0 in omega (arith, ap length e, w.0.1.1, k.counted, p.1.fits))
      (q.1.otherwise s (λ none. none ks k.errors k.lawful))

  both_refused : (t u : Told) → Searched stroke r → Rightly (refused t) → Rightly (refused u) → t ≡ u
  both_refused t u s p q = ⊎_elim
      (λ e. let none = p.1.truly_none e in p.1.none_told s none ∙ sym (q.1.none_told s none))
      (λ n. ⊎_elim (λ a. absurd a)
      (λ v. ⊎_elim (λ a. absurd a)
      (λ w. let e = same_kept (refused t) (refused u) v.0.0 w.0.0 v.0.1.0 w.0.1.0 in v.1 ∙ ap (λ ks. at_layer Tray 10 (length ks)) e ∙ sym w.1)
      (q.1.otherwise s (λ none. n (ap (λ x. x.number) (p.1.none_told s none)))))
      (p.1.otherwise s (λ none. n (ap (λ x. x.number) (p.1.none_told s none)))))
      (is_nine t.number)

  searched_same : (x y : Reply) → Searched stroke r → Rightly x → Rightly y → SameReply x y
  searched_same (answered ks m t) (answered ls n u) s p q =
      let e = same_kept _ _ ks ls p.0.keeps.kept_chain q.0.keeps.kept_chain in
      (e, omega (arith, ap length e, p.0.keeps.counted, q.0.keeps.counted))
  searched_same (answered ks m t) (refused u) s p q = one_answered ks m t u s p q
  searched_same (refused t) (answered ls n u) s p q = one_answered ls n u t s q p
  searched_same (refused t) (refused u) s p q = both_refused t u s p q

  one_right : (x y : Reply) → Rightly x → Rightly y → SameReply x y
  one_right x y p q =
      let f = p.1.first_checks in
      let g = q.1.first_checks in
      ⊎_elim
      (λ (l : length stroke < 1). refused_same x y _ _ (f.bare (omega arith)) (g.bare (omega arith)))
      (λ (some : 1 ≤ length stroke). ⊎_elim
      (λ (w : limit < r.tolerance). refused_same x y _ _ (f.wide some w) (g.wide some w))
      (λ (t : r.tolerance ≤ limit). ⊎_elim
      (λ (h : r.table < length stroke). refused_same x y _ _ (f.short some t h) (g.short some t h))
      (λ (h : length stroke ≤ r.table). searched_same x y (some, t, h) p q)
      (cases_lt r.table (length stroke)))
      (cases_lt limit r.tolerance))
      (cases_lt (length stroke) 1)

pub one_reply : OneReply
one_reply stroke r within x y p p' q q' = one_right stroke r within x y (p, p') (q, q')
