-- The limits of the first n points of a list, and of the stroke that they make.
use Rattle.std.proofs.Common.{◌≡◌, ℕ, ◌<◌, ◌≤◌, List, length, take, arith}
use Rattle.std.proofs.lemmas.List.{length-take-le, get_or-take}
use Rattle.tray.specs.declared.point.Point.{Point}
use Rattle.tray.specs.Stroke.{at, origin, OnSheet, Rising, Short, Lawful}

module _ (ps : List Point) (n : ℕ) (h : n ≤ length ps) where
  long : length (take n ps) ≡ n
  long = length-take-le n ps h

  front_at : (k : ℕ) → k < n → at (take n ps) k ≡ at ps k
  front_at k l = get_or-take n ps k origin l

  pub lawful_front : n ≤ 512 → OnSheet ps n → Rising ps n → Short ps n → Lawful (take n ps)
  lawful_front few placed rising short = record {
    few = rw long few;
    placed = λ k l. let a : k < n = omega (arith, long) in rw (front_at k a) (placed k a);
    rising = λ i j l m. let b : j < n = omega (arith, long) in let a : i < n = omega arith in rw (front_at i a, front_at j b) (rising i j l b);
    short = λ k l. let a : k < n = omega (arith, long) in let o : 0 < n = omega arith in rw (front_at k a, front_at 0 o) (short k a);
  }

  pub front_limits : Lawful (take n ps) → OnSheet ps n × Rising ps n × Short ps n
  front_limits w = (
    λ k a. rw (front_at k a) at (w.placed k (omega (arith, long))),
    λ i j l b. let a : i < n = omega arith in rw (front_at i a, front_at j b) at (w.rising i j l (omega (arith, long))),
    λ k a. let o : 0 < n = omega arith in rw (front_at k a, front_at 0 o) at (w.short k (omega (arith, long))),
  )
