-- How large the sums of errors are, and what sums over chains of numbers come to.
use Rattle.std.specs.Range.{range_inclusive_len, range_inclusive_steps}
use Rattle.std.specs.declared.ops.RangeInclusive.{RangeInclusive}
use Rattle.std.proofs.lemmas.Iterator.{YieldsList}
use Rattle.std.proofs.lemmas.Iterator.Consumers.{YieldsList-from_shown}
use Rattle.std.specs.List.{sum, sum_by, filter_map, cons_option, range_with_len}
use Rattle.std.proofs.lemmas.List.Sums.{sum_by-cons}
use Rattle.std.proofs.Common.{◌≡◌, ℕ, zero, suc, Bool, true, false, length, subst, add-one, ◌+◌, ◌-◌, ◌*◌, ◌≤◌, List, [], ◌∷◌, Some, None, Option, refl, ap, arith}
use Rattle.tray.specs.declared.point.Point.{Point}
use Rattle.tray.specs.Stroke.{Lawful}
use Rattle.tray.specs.Reductions.{Meaning}
use Rattle.total.specs.Laws.{limit}
use Rattle.measure.specs.Between.{gathered}
use Rattle.measure.specs.Runs.{sum_small}
use Rattle.chords.specs.Every.{counted, counted_at, errors_to}

counted_small : (o : Option ℕ) → ((e : ℕ) → o ≡ Some e → e ≤ limit) → counted o ≤ limit
counted_small (Some e) h = h e refl
counted_small None h = omega arith

module _ (m : Meaning) (limited : (ps : List Point) (i j e : ℕ) → Lawful ps → m ps i j ≡ Some e → e ≤ limit) (ps : List Point) (l : Lawful ps) where
  pub some_small : (j n : ℕ) → gathered ◌+◌ 0 (counted_at m ps j) 1 n ≤ n * limit
  some_small j n = sum_small (counted_at m ps j) 1 n limit (λ i p q. counted_small (m ps i j) (λ e. limited ps i j e l))

  pub all_small : (n : ℕ) → n ≤ 512 → gathered ◌+◌ 0 (errors_to m ps) 1 n ≤ n * (512 * limit)
  all_small n h =
      sum_small (errors_to m ps) 1 n (512 * limit)
      (λ j p q. omega (arith, some_small j (j - 1)))

-- ---- sums of what a chain gives

gathered_cons : (f : ℕ → ℕ) (a n : ℕ) → gathered ◌+◌ 0 f a (suc n) ≡ f a + gathered ◌+◌ 0 f (a + 1) n
gathered_cons f a zero = let e : a + 0 ≡ a = omega arith in rw e (omega arith)
gathered_cons f a (suc n) =
    let e : a + suc n ≡ a + 1 + n = omega arith in
    omega (arith, gathered_cons f a n, ap f e)

sum_cons_option : (o : Option ℕ) (xs : List ℕ) → sum (cons_option o xs) ≡ counted o + sum xs
sum_cons_option (Some x) xs = sum_by-cons (λ n. n) x xs
sum_cons_option None xs = omega arith

-- what a function that may give none gives on a list
pub sum_of_some : (h : ℕ → Option ℕ) (xs : List ℕ) → sum (filter_map h xs) ≡ sum_by (λ i. counted (h i)) xs
sum_of_some h [] = refl
sum_of_some h (x ∷ xs) =
    let f = λ (i : ℕ). counted (h i) in
    omega (arith, sum_cons_option (h x) (filter_map h xs), sum_of_some h xs, sum_by-cons f x xs)

pub sum_over : (f : ℕ → ℕ) (a n : ℕ) → sum_by f (range_with_len a n) ≡ gathered ◌+◌ 0 f a n
sum_over f a zero = refl
sum_over f a (suc n) = omega (arith, sum_by-cons f a (range_with_len (a + 1) n), sum_over f (a + 1) n, gathered_cons f a n)

-- ---- the chain of the numbers of a range with its end

abbrev gap : ℕ → ℕ → ℕ
gap a b = b - a

abbrev left : RangeInclusive ℕ → ℕ
left s = range_inclusive_len gap s.start s.end s.exhausted

abbrev shown : RangeInclusive ℕ → List ℕ
shown s = range_with_len s.start (left s)

one_less : (a b m : ℕ) (e : Bool) → (e ≡ false → b ≡ a + 1) → range_with_len a (range_inclusive_len gap b m e + 1) ≡ a ∷ range_with_len b (range_inclusive_len gap b m e)
one_less a b m true h = refl
one_less a b m false h =
    let k : b ≡ a + 1 = h refl in
    rw (add-one (gap b m + 1 - gap m b), k)

abbrev steps : RangeInclusive ℕ → Option ℕ → RangeInclusive ℕ → Type 0
steps = range_inclusive_steps gap (λ a b. b ≡ a + 1)

pub YieldsList-from_inclusive : {s : RangeInclusive ℕ} (n : ℕ) → s.start ≡ 1 → s.end ≡ n → s.exhausted ≡ false → YieldsList steps (λ x. x) s (range_with_len 1 n)
YieldsList-from_inclusive {s} n p q r =
    let e : shown s ≡ range_with_len 1 n = rw (p, q, r) (ap (range_with_len 1) (omega arith)) in
    subst (YieldsList steps (λ x. x) s) e
    (YieldsList-from_shown steps (λ x. x) shown
    (λ u t h. ap (λ (k : ℕ). length (range_with_len u.start k)) h.1.0)
    (λ u x t h. rw (h.1.0, ← h.1.1) (one_less u.start t.start t.end t.exhausted h.1.2))
    s)
