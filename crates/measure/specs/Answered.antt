-- The laws of measures, for bare measures and for layers.
use Rattle.std.specs.Prelude.{◌≡◌, ℕ, ◌<◌, ◌≤◌, Bool, true, false, cond, List, length, Some, None, Option, refl}
use Rattle.std.proofs.Common.{arith}
use Rattle.tray.specs.declared.point.Point.{Point}
use Rattle.tray.specs.Stroke.{Lawful}
use Rattle.total.specs.Laws.{limit}
use Rattle.measure.specs.Chords.{Chord, chord, bare}
use Rattle.measure.specs.Layers.{barring}
use Rattle.measure.specs.Points.{chord_of}

answered_by : (b : Bool) (n e : ℕ) → cond b (Some n) None ≡ Some e → (b ≡ true) × (n ≡ e)
answered_by true n e q = (refl, cc)
answered_by false n e q = let z : ◌≡◌ {A = ℕ} 0 1 = cc in absurd (omega arith)

-- an answer of a bare measure is its number at a chord
pub answered : (f : List Point → ℕ → ℕ → ℕ) (ps : List Point) (i j e : ℕ) → bare f ps i j ≡ Some e → Chord ps i j × (f ps i j ≡ e)
answered f ps i j e q =
    let a = answered_by (chord ps i j) (f ps i j) e q in
    (chord_of ps i j a.0, a.1)

pub bare_within : (f : List Point → ℕ → ℕ → ℕ) (ps : List Point) (i j e : ℕ) → bare f ps i j ≡ Some e → (1 ≤ i) × (i < j) × (j ≤ length ps)
bare_within f ps i j e q = let k = (answered f ps i j e q).0 in (k.first, k.rising, k.last)

pub bare_limited : (f : List Point → ℕ → ℕ → ℕ) → ((ps : List Point) (i j : ℕ) → Lawful ps → Chord ps i j → f ps i j ≤ limit) → (ps : List Point) (i j e : ℕ) → Lawful ps → bare f ps i j ≡ Some e → e ≤ limit
bare_limited f h ps i j e l q = let a = answered f ps i j e q in omega (arith, h ps i j l a.0, a.1)

-- what a layer answers is the answer from below
pub passed_on : (b : Bool) (o : Option ℕ) (e : ℕ) → barring b o ≡ Some e → o ≡ Some e
passed_on true o e q = let z : ◌≡◌ {A = ℕ} 0 1 = cc in absurd (omega arith)
passed_on false o e q = q
