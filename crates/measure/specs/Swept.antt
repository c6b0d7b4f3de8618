-- How large the area's sum is.
use Rattle.std.specs.Prelude.{◌≡◌, ℕ, ◌+◌, ◌-◌, ◌*◌, ◌<◌, ◌≤◌, List, pos, ◌+ℤ◌, ◌-ℤ◌, unsigned_abs}
use Rattle.std.proofs.Common.{ap, ◌∙◌, arith}
use Rattle.std.proofs.lemmas.Int.{ints}
use Rattle.tray.specs.declared.point.Point.{Point}
use Rattle.tray.specs.Stroke.{at, numbered, Lawful}
use Rattle.total.specs.Laws.{limit}
use Rattle.measure.specs.Chords.{On, Chord}
use Rattle.measure.specs.Between.{gathered}
use Rattle.measure.specs.Steps.{cross}
use Rattle.measure.specs.Area.{turn, swept, area_error}
use Rattle.measure.specs.Ints.{product_small}
use Rattle.measure.specs.Runs.{one_more, sum_z_small}
use Rattle.measure.specs.Points.{on, step_small}

pub cross_small : (o p q : Point) → On o → On p → On q → unsigned_abs (cross o p q) ≤ 2 * (8191 * 8191)
cross_small o p q f g h =
    let a = product_small (p.x -ℤ o.x) (q.y -ℤ o.y) 8191 8191 (step_small _ _ f.across g.across) (step_small _ _ f.upright h.upright) in
    let b = product_small (p.y -ℤ o.y) (q.x -ℤ o.x) 8191 8191 (step_small _ _ f.upright g.upright) (step_small _ _ f.across h.across) in
    omega (arith, ints, a, b)

pub swept_small : (ps : List Point) (i m : ℕ) → Lawful ps → Chord ps i m → unsigned_abs (swept ps i m) ≤ (m - (i + 1)) * (2 * (8191 * 8191))
swept_small ps i m l c =
    sum_z_small (turn ps i) (i + 1) (m - (i + 1)) (2 * (8191 * 8191))
    (λ k p q. cross_small (numbered ps i) (numbered ps k) (numbered ps (k + 1)) (on ps i l (omega arith) (omega arith)) (on ps k l (omega arith) (omega arith)) (on ps (k + 1) l (omega arith) (omega arith)))

-- one more point, as `points[m]` has it
pub swept_next : (ps : List Point) (i m : ℕ) → i < m → swept ps i (m + 1) ≡ swept ps i m +ℤ cross (numbered ps i) (numbered ps m) (at ps m)
swept_next ps i m h =
    let n : m + 1 - (i + 1) ≡ m - (i + 1) + 1 = omega arith in
    let d : i + 1 + (m - (i + 1)) ≡ m = omega arith in
    let e : m + 1 - 1 ≡ m = omega arith in
    ap (gathered ◌+ℤ◌ (pos 0) (turn ps i) (i + 1)) n
    ∙ (one_more ◌+ℤ◌ (pos 0) (turn ps i) (i + 1) (m - (i + 1))
    ∙ (ap (λ (k : ℕ). swept ps i m +ℤ turn ps i k) d ∙ ap (λ (k : ℕ). swept ps i m +ℤ cross (numbered ps i) (numbered ps m) (at ps k)) e))

pub area_limit : (ps : List Point) (i j : ℕ) → Lawful ps → Chord ps i j → area_error ps i j ≤ limit
area_limit ps i j l c = omega (arith, swept_small ps i j l c, l.few)
