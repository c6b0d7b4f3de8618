-- What the puts of a stroke leave: points within the limits, or a refusal of a put.
use Rattle.std.proofs.Common.{◌≡◌, ℕ, ◌+◌, ◌≤◌, Bool, true, false, cond, List, [], ◌∷◌, map, length, ℤ, Ok, Err, Result, ap, subst, arith}
use mathlib.Core.List.{foldl}
use Rattle.std.proofs.lemmas.List.{length-map}
use Rattle.refusal.specs.declared.Told.{Told}
use Rattle.tray.specs.declared.point.Point.{Point}
use Rattle.tray.specs.Stroke.{Lawful}
use Rattle.tray.specs.Machine.{refusal, off_sheet, stopped, late, full, put_says}
use Rattle.tray.proofs.Lawfuls.{stays_lawful, kept_by_put}
use Rattle.page.specs.declared.kinds.Point.{Point as Dot}
use Rattle.job.specs.Answer.{plain_of, point_of, put_on, drawn_with, drawing}
use Rattle.job.proofs.Puts.{drawn_plain}

-- a refusal by a put
abbrev OfPut : Result ℕ Told → Type 0
OfPut (Ok n) = Unit {0}
OfPut (Err t) = t.number ≤ 4

low : (b : Bool) (n p : ℕ) (r : Result ℕ Told) → n ≤ 4 → OfPut r → OfPut (cond b (refusal n p) r)
low true n p r h w = h
low false n p r h w = w

of_put : (ps : List Point) (vx vy : ℤ) (vt : ℕ) → OfPut (put_says ps vx vy vt)
unfolding put_says
of_put ps vx vy vt =
    let n : ℕ = length ps + 1 in
    let at_4 : Result ℕ Told = cond (full ps) (refusal 4 513) (Ok n) in
    let at_3 : Result ℕ Told = cond (late ps vt) (refusal 3 n) at_4 in
    let at_2 : Result ℕ Told = cond (stopped ps vt) (refusal 2 n) at_3 in
    low (off_sheet vx vy) 1 n at_2 (omega arith) (low (stopped ps vt) 2 n at_3 (omega arith) (low (late ps vt) 3 n at_4 (omega arith) (low (full ps) 4 513 (Ok n) (omega arith) tt)))

abbrev pub Stands : Result (List Point) Told → Type 0
Stands (Ok qs) = Lawful qs
Stands (Err t) = t.number ≤ 4

stands_on : (qs : List Point) (p : Dot) (r : Result ℕ Told) → Lawful qs → OfPut r → Stands (put_on qs p r)
stands_on qs p (Ok n) w h = kept_by_put qs p.x p.y p.t w
stands_on qs p (Err t) w h = h

stands_with : (r : Result (List Point) Told) (p : Dot) → Stands r → Stands (drawn_with r p)
stands_with (Ok qs) p w = stands_on qs p (put_says qs p.x p.y p.t) w (of_put qs p.x p.y p.t)
stands_with (Err t) p w = w

stands_from : (ps : List Dot) (r : Result (List Point) Told) → Stands r → Stands (foldl drawn_with r ps)
stands_from [] r w = w
stands_from (p ∷ ps) r w = stands_from ps (drawn_with r p) (stands_with r p w)

pub stands : (ps : List Dot) → Stands (drawing ps)
stands ps = stands_from ps (Ok []) (stays_lawful [])

-- a stroke whose puts are all answered has at most 512 points
pub few_drawn : (ps : List Dot) (qs : List Point) → drawing ps ≡ Ok qs → length (map point_of ps) ≤ 512
few_drawn ps qs e =
    let w : Lawful qs = subst Stands e (stands ps) in
    let f = w.few in
    let a = ap length (drawn_plain ps qs e) in
    let b = length-map ps plain_of in
    let c = length-map ps point_of in
    omega arith
