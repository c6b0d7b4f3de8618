-- What the points of a table are, and how a write to its array changes them.
use Rattle.std.proofs.Common.{◌≡◌, ℕ, ◌+◌, ◌-◌, ◌<◌, ltb, leb, List, length, set, refl, inl, inr, arith}
use Rattle.std.proofs.lemmas.List.{length-take-le, get_or-take, get_or-set_same, get_or-set_other}
use Rattle.std.proofs.lemmas.Bool.{cases_eq, lt-ltb}
use Rattle.tray.specs.declared.point.Point.{Point}
use Rattle.tray.specs.declared.point.Mark.{Mark}
use Rattle.tray.specs.declared.table.Table.{Table}
use Rattle.tray.specs.Stroke.{at, origin, OnSheet, Rising, Short, Lawful}
use Rattle.tray.specs.Machine.{marked, stopped, late}
use Rattle.tray.specs.Trays.{points}
use Rattle.tray.proofs.Fronts.{lawful_front}

pub length_points : (m : Table) → length (points m) ≡ m.len
length_points m = length-take-le m.len m.points (omega arith)

pub at_points : (m : Table) (k : ℕ) → k < m.len → at (points m) k ≡ at m.points k
at_points m k h = get_or-take m.len m.points k origin h

-- with at least one point, the two tests of a time read the array
pub stopped_at : (m : Table) (vt : ℕ) → 0 < m.len → stopped (points m) vt ≡ leb vt (at m.points (m.len - 1)).t
stopped_at m vt l =
    let k : m.len - 1 < m.len = omega arith in
    rw (length_points m, at_points m (m.len - 1) k, lt-ltb 0 m.len l)

pub late_at : (m : Table) (vt : ℕ) → 0 < m.len → late (points m) vt ≡ ltb ((at m.points 0).t + 8191) vt
late_at m vt l = rw (length_points m, at_points m 0 l, lt-ltb 0 m.len l)

-- a point with another mark has the place and the time that it had
module _ (ps : List Point) (i : ℕ) (b : Mark) (h : i < length ps) where
  abbrev pub turned : List Point
  turned = set ps i (marked b (at ps i))

  same_turned : {A : Type 0} (f : Point → A) → ((p : Point) → f (marked b p) ≡ f p) → (k : ℕ) → f (at turned k) ≡ f (at ps k)
  same_turned f e k = elim (cases_eq k i) [ inl z ↦ rw (z, get_or-set_same) (e (at ps i)) | inr ne ↦ rw get_or-set_other ]

  x_turned : (k : ℕ) → (at turned k).x ≡ (at ps k).x
  x_turned = same_turned (λ p. p.x) (λ p. refl)

  y_turned : (k : ℕ) → (at turned k).y ≡ (at ps k).y
  y_turned = same_turned (λ p. p.y) (λ p. refl)

  t_turned : (k : ℕ) → (at turned k).t ≡ (at ps k).t
  t_turned = same_turned (λ p. p.t) (λ p. refl)

  pub limits_turned : (n : ℕ) → OnSheet ps n → Rising ps n → Short ps n → OnSheet turned n × Rising turned n × Short turned n
  limits_turned n placed rising short = (
    λ k l. rw (x_turned k, y_turned k) (placed k l),
    λ k j l m. rw (t_turned k, t_turned j) (rising k j l m),
    λ k l. rw (t_turned k, t_turned 0) (short k l),
  )

-- a table's points are a stroke within the limits
pub lawful_points : (m : Table) → Lawful (points m)
lawful_points m = lawful_front m.points m.len (omega arith) m.few m.placed m.rising m.short
