-- Chords of a stroke, and measures that bar nothing else.
--   Placed z       z is a lawful place
--   On p           the point p lies on the sheet
--   Within p q k   three points of a stroke: k is after p and before q
--   Chord ps i j   i and j are the numbers of two points of the stroke, the first before the second
--   chord ps i j   the same, as a test
--   lasting        the time from the point i to the point j
--   bare f         the measure that answers f at each chord, and bars what is none
use Rattle.std.specs.Prelude.{ℕ, ◌+◌, ◌-◌, ◌<◌, ◌≤◌, Bool, cond, ◌&&◌, List, length, ℤ, pos, negsuc, ◌≤ℤ◌, Some, None, nat_le, nat_lt}
use Rattle.tray.specs.declared.point.Point.{Point}
use Rattle.tray.specs.Stroke.{numbered}
use Rattle.tray.specs.Reductions.{Meaning}

abbrev pub Placed : ℤ → Type 0
Placed z = (negsuc 4095 ≤ℤ z) × (z ≤ℤ pos 4095)

pub record On (p : Point) : Type 0 where
  pub across : Placed p.x
  pub upright : Placed p.y

pub record Within (p q k : Point) : Type 0 where
  pub start : On p
  pub end : On q
  pub on : On k
  pub after : p.t < k.t
  pub before : k.t < q.t
  pub brief : q.t ≤ p.t + 8191

pub record Chord (ps : List Point) (i j : ℕ) : Type 0 where
  pub first : 1 ≤ i
  pub rising : i < j
  pub last : j ≤ length ps

abbrev pub chord : List Point → ℕ → ℕ → Bool
chord ps i j = nat_le 1 i && (nat_lt i j && nat_le j (length ps))

abbrev pub lasting : List Point → ℕ → ℕ → ℕ
lasting ps i j = (numbered ps j).t - (numbered ps i).t

abbrev pub bare : (List Point → ℕ → ℕ → ℕ) → Meaning
bare f ps i j = cond (chord ps i j) (Some (f ps i j)) None
