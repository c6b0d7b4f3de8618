-- What the limits of a stroke say of the points of a chord.
use Rattle.std.specs.Prelude.{◌≡◌, ℕ, ◌+◌, ◌-◌, ◌<◌, ◌≤◌, true, ◌&&◌, List, length, ℤ, ◌-ℤ◌, nat_le, nat_lt, unsigned_abs}
use Rattle.std.proofs.Common.{ap, ⊎_elim, arith}
use Rattle.std.proofs.lemmas.Int.{ints}
use Rattle.std.proofs.lemmas.Bool.{cases_lt, and_parts, leb-true, ltb-true}
use Rattle.tray.specs.declared.point.Point.{Point}
use Rattle.tray.specs.Stroke.{at, numbered, Lawful}
use Rattle.measure.specs.Chords.{Placed, On, Chord, chord}

pub on : (ps : List Point) (k : ℕ) → Lawful ps → 1 ≤ k → k ≤ length ps → On (numbered ps k)
on ps k l f g =
    let h = l.placed (k - 1) (omega arith) in
    record { across = (h.0, h.1); upright = (h.2, h.3) }

pub step_small : (a b : ℤ) → Placed a → Placed b → unsigned_abs (b -ℤ a) ≤ 8191
step_small a b f g = omega (arith, ints)

pub later : (ps : List Point) (i j : ℕ) → Lawful ps → 1 ≤ i → i < j → j ≤ length ps → (numbered ps i).t < (numbered ps j).t
later ps i j l f g h = l.rising (i - 1) (j - 1) (omega arith) (omega arith)

-- no time is before the first
not_before : (ps : List Point) (k : ℕ) → Lawful ps → k < length ps → (at ps 0).t ≤ (at ps k).t
not_before ps k l h =
    ⊎_elim
    (λ some. omega (arith, l.rising 0 k some h))
    (λ none. let e : 0 ≡ k = omega arith in omega (arith, ap (λ (n : ℕ). (at ps n).t) e))
    (cases_lt 0 k)

pub brief : (ps : List Point) (i j : ℕ) → Lawful ps → 1 ≤ i → i < j → j ≤ length ps → (numbered ps j).t ≤ (numbered ps i).t + 8191
brief ps i j l f g h = omega (arith, l.short (j - 1) (omega arith), not_before ps (i - 1) l (omega arith))

pub chord_of : (ps : List Point) (i j : ℕ) → chord ps i j ≡ true → Chord ps i j
chord_of ps i j t =
    let a = and_parts (nat_le 1 i) (nat_lt i j && nat_le j (length ps)) t in
    let b = and_parts (nat_lt i j) (nat_le j (length ps)) a.1 in
    record { first = leb-true 1 i a.0; rising = ltb-true i j b.0; last = leb-true j (length ps) b.1 }
