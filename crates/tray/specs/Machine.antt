-- One call on a list of points: what it says, and the points after it.
--   off_sheet, stopped, late, full          the causes that refuse a put, each by itself
--   put_says, take_back_says, mark_says     the answer, or what the refusal tells: the smallest number wins
--   put_after, take_back_after, mark_after  the points then; a refused call leaves them as they were
--   plain, marked                           a new point, and a point with another mark
use Rattle.std.specs.Prelude.{ℕ, ◌+◌, ◌-◌, Bool, cond, ◌&&◌, ◌||◌, List, [], ◌∷◌, ◌++◌, length, take, ℤ, pos, negsuc, Ok, Err, Result, ◌==◌, int_lt, nat_le, nat_lt, slice_set}
use Rattle.refusal.specs.declared.Told.{Told}
use Rattle.refusal.specs.declared.Layer.TheVariants.{Tray}
use Rattle.refusal.specs.Said.{at_layer}
use Rattle.tray.specs.declared.point.Point.{Point}
use Rattle.tray.specs.declared.point.Mark.{Mark}
use Rattle.tray.specs.declared.point.Mark.TheVariants.{Plain}
use Rattle.tray.specs.Stroke.{at, numbered}

-- a refusal by the tray, with its number and its place
abbrev pub refusal : ℕ → ℕ → Result ℕ Told
refusal n p = Err (at_layer Tray n p)

-- x or y is no lawful place
abbrev pub off_sheet : ℤ → ℤ → Bool
off_sheet vx vy = int_lt vx (negsuc 4095) || int_lt (pos 4095) vx || int_lt vy (negsuc 4095) || int_lt (pos 4095) vy

-- a time that is not above the last one
abbrev pub stopped : List Point → ℕ → Bool
stopped ps vt = nat_lt 0 (length ps) && nat_le vt (at ps (length ps - 1)).t

-- a time that is over 8,191 above the first
abbrev pub late : List Point → ℕ → Bool
late ps vt = nat_lt 0 (length ps) && nat_lt ((at ps 0).t + 8191) vt

abbrev pub full : List Point → Bool
full ps = nat_le 512 (length ps)

abbrev pub plain : ℤ → ℤ → ℕ → Point
plain vx vy vt = record { x = vx; y = vy; t = vt; mark = Plain }

-- the first cause that holds, or the new point's number
unfoldable pub put_says : List Point → ℤ → ℤ → ℕ → Result ℕ Told
put_says ps vx vy vt =
    cond (off_sheet vx vy) (refusal 1 (length ps + 1))
    (cond (stopped ps vt) (refusal 2 (length ps + 1))
    (cond (late ps vt) (refusal 3 (length ps + 1))
    (cond (full ps) (refusal 4 513)
    (Ok (length ps + 1)))))

-- the new points where the call is answered, else those before it
abbrev pub if_answered : Result ℕ Told → List Point → List Point → List Point
if_answered (Ok n) qs ps = qs
if_answered (Err r) qs ps = ps

unfoldable pub put_after : List Point → ℤ → ℤ → ℕ → List Point
put_after ps vx vy vt = if_answered (put_says ps vx vy vt) (ps ++ plain vx vy vt ∷ []) ps

-- the number of the last point
abbrev pub take_back_says : List Point → Result ℕ Told
take_back_says ps = cond (length ps == 0) (refusal 5 0) (Ok (length ps))

abbrev pub take_back_after : List Point → List Point
take_back_after ps = take (length ps - 1) ps

abbrev pub marked : Mark → Point → Point
marked m p = record { x = p.x; y = p.y; t = p.t; mark = m }

-- no point has the number i
abbrev pub lacks : List Point → ℕ → Bool
lacks ps i = i == 0 || nat_lt (length ps) i

abbrev pub mark_says : List Point → ℕ → Result ℕ Told
mark_says ps i = cond (lacks ps i) (refusal 6 i) (Ok i)

-- the point with the number i has the mark m then
abbrev pub mark_after : Mark → List Point → ℕ → List Point
mark_after m ps i = cond (lacks ps i) ps (slice_set ps (i - 1) (marked m (numbered ps i)))
