-- What the points strictly between the ends of a chord keep, and how a test of one of them reads.
use Rattle.std.proofs.Common.{◌≡◌, ℕ, zero, suc, ◌+◌, ◌<◌, ◌≤◌, Bool, false, ◌||◌, List, length, take, refl, ap, ◌∙◌, sym, subst, arith, add-one}
use Rattle.std.specs.List.{list_any}
use Rattle.std.proofs.lemmas.List.{take_all}
use Rattle.std.proofs.lemmas.List.Folds.{list_any_more}
use Rattle.tray.specs.declared.point.Point.{Point}
use Rattle.tray.specs.Stroke.{at, numbered, origin, Lawful}
use Rattle.measure.specs.Chords.{Chord, Within}
use Rattle.measure.specs.Between.{gathered}
use Rattle.measure.specs.Points.{on, later, brief}

pub within_chord : (ps : List Point) (i j k : ℕ) (p : Point) → Lawful ps → Chord ps i j → i < k → k < j → p ≡ numbered ps k → Within (numbered ps i) (numbered ps j) p
within_chord ps i j k p l c f g e =
    subst (Within (numbered ps i) (numbered ps j)) (sym e)
    (record {
      start = on ps i l (omega arith) (omega arith);
      end = on ps j l (omega arith) (omega arith);
      on = on ps k l (omega arith) (omega arith);
      after = later ps i k l (omega arith) (omega arith) (omega arith);
      before = later ps k j l (omega arith) (omega arith) (omega arith);
      brief = brief ps i j l (omega arith) (omega arith) (omega arith);
    })

-- whether one of the first n points passes a test, by their numbers from a
module _ (test : Point → Bool) (f : ℕ → Bool) (xs : List Point) (a : ℕ) (h : (n : ℕ) → n < length xs → test (at xs n) ≡ f (a + n)) where
  any_of_first : (n : ℕ) → n ≤ length xs → list_any test (take n xs) ≡ gathered ◌||◌ false f a n
  any_of_first zero l = refl
  any_of_first (suc n) l =
      let m = list_any_more test xs n origin l in
      let t = rw (add-one n) at m in
      t ∙ ap (λ (b : Bool). b || test (at xs n)) (any_of_first n (omega arith)) ∙ ap (λ (b : Bool). gathered ◌||◌ false f a n || b) (h n l)

  pub any_by_number : (n : ℕ) → length xs ≡ n → list_any test xs ≡ gathered ◌||◌ false f a n
  any_by_number n e = rw (take_all n xs (omega arith)) at (any_of_first n (omega arith))
