-- A put over a table takes the machine's step.
use Rattle.std.proofs.Common.{◌≡◌, ℕ, ◌+◌, ◌<◌, true, false, List, [], ◌∷◌, ◌++◌, length, take, set, ℤ, Ok, Result, arith}
use Rattle.std.proofs.lemmas.List.{take_more_set}
use Rattle.tray.specs.declared.point.Point.{Point}
use Rattle.tray.specs.declared.table.Table.{Table}
use Rattle.refusal.specs.declared.Told.{Told}
use Rattle.tray.specs.Machine.{refusal, off_sheet, stopped, late, full, plain, put_says, put_after}
use Rattle.tray.specs.Trays.{points}

-- what a put says and leaves, by the first cause that holds
module _ (ps : List Point) (vx vy : ℤ) (vt : ℕ) where
  abbrev pub Does : Result ℕ Told → List Point → Type 0
  Does s qs = (s ≡ put_says ps vx vy vt) × (qs ≡ put_after ps vx vy vt)

  pub does_off : off_sheet vx vy ≡ true → Does (refusal 1 (length ps + 1)) ps
  unfolding put_says put_after
  does_off e = (rw e, rw e)

  pub does_stopped : off_sheet vx vy ≡ false → stopped ps vt ≡ true → Does (refusal 2 (length ps + 1)) ps
  unfolding put_says put_after
  does_stopped e f = (rw (e, f), rw (e, f))

  pub does_late : off_sheet vx vy ≡ false → stopped ps vt ≡ false → late ps vt ≡ true → Does (refusal 3 (length ps + 1)) ps
  unfolding put_says put_after
  does_late e f g = (rw (e, f, g), rw (e, f, g))

  pub does_full : off_sheet vx vy ≡ false → stopped ps vt ≡ false → late ps vt ≡ false → full ps ≡ true → Does (refusal 4 513) ps
  unfolding put_says put_after
  does_full e f g h = (rw (e, f, g, h), rw (e, f, g, h))

  pub does_add : off_sheet vx vy ≡ false → stopped ps vt ≡ false → late ps vt ≡ false → full ps ≡ false →
      Does (Ok (length ps + 1)) (ps ++ plain vx vy vt ∷ [])
  unfolding put_says put_after
  does_add e f g h = (rw (e, f, g, h), rw (e, f, g, h))

-- the points after it
pub added : (m : Table) (p : Point) → m.len < 512 → take (m.len + 1) (set m.points m.len p) ≡ points m ++ p ∷ []
added m p room = take_more_set m.points m.len p (omega arith)
