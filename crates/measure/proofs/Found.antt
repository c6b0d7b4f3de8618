-- A test that one number of a run passes, and layers where there is no chord.
use Rattle.std.specs.Prelude.{◌≡◌, ℕ, zero, suc, ◌+◌, ◌<◌, ◌≤◌, Bool, true, false, ◌||◌, List, length, Some, None, Option, refl}
use Rattle.std.proofs.Common.{ap, ◌∙◌, ⊎_elim, arith}
use Rattle.std.proofs.lemmas.Bool.{cases_lt, or_left, or_right, le-leb, lt-ltb}
use Rattle.tray.specs.declared.point.Point.{Point}
use Rattle.measure.specs.Between.{gathered}
use Rattle.measure.specs.Chords.{chord}
use Rattle.measure.specs.Layers.{barring}

pub some_found : (f : ℕ → Bool) (a n k : ℕ) → k < n → f (a + k) ≡ true → gathered ◌||◌ false f a n ≡ true
some_found f a zero k q h = absurd (omega arith)
some_found f a (suc n) k q h =
    ⊎_elim
    (λ l. or_left (gathered ◌||◌ false f a n) (f (a + n)) (some_found f a n k l h))
    (λ g. let e : n ≡ k = omega arith in or_right (gathered ◌||◌ false f a n) (f (a + n)) (ap (λ (m : ℕ). f (a + m)) e ∙ h))
    (cases_lt k n)

pub chord_is : (ps : List Point) (i j : ℕ) → 1 ≤ i → i < j → j ≤ length ps → chord ps i j ≡ true
chord_is ps i j f g h = rw (le-leb 1 i f, lt-ltb i j g, le-leb j (length ps) h)

-- where there is no chord there is no answer from below, so a layer has none
pub none_outside : (b : Bool) (ps qs : List Point) (i j : ℕ) (o : Option ℕ) → qs ≡ ps → false ≡ chord qs i j → ((e : ℕ) → o ≡ Some e → (1 ≤ i) × (i < j) × (j ≤ length ps)) → None ≡ barring b o
none_outside true ps qs i j o p f h = refl
none_outside false ps qs i j None p f h = refl
none_outside false ps qs i j (Some e) p f h =
    let k = h e refl in
    let t = chord_is ps i j k.0 k.1 k.2 in
    let u : chord qs i j ≡ chord ps i j = ap (λ (rs : List Point). chord rs i j) p in
    let z : ◌≡◌ {A = ℕ} 0 1 = cc in
    absurd (omega arith)
