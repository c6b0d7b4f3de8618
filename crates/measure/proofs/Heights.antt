-- The greatest of the rounded distances is the rounded greatest: one division a chord.
use Rattle.std.proofs.Common.{◌≡◌, ℕ, zero, suc, ◌+◌, ◌-◌, ◌*◌, ◌<◌, ◌≤◌, max, Bool, true, false, cond, List, pos, nat_abs, sym, refl, ap, ◌∙◌, ⊎_elim, le_of_lt, arith}
use native.Mathlib.Nat.{zero-div, zero-mod}
use lib.Signed.{le_z}
use Rattle.std.proofs.lemmas.Nat.{mul-le}
use Rattle.std.proofs.lemmas.Bool.{cases_lt}
use Rattle.tray.specs.declared.point.Point.{Point}
use Rattle.tray.specs.Stroke.{numbered, Lawful}
use Rattle.measure.specs.Chords.{On, Chord}
use Rattle.measure.specs.Between.{gathered}
use Rattle.measure.specs.Steps.{rounded_up, cross, dot}
use Rattle.measure.specs.Distance.{off, off_at, distance_error}
use Rattle.measure.specs.declared.distance.Side.{Side}
use Rattle.measure.specs.declared.distance.Side.TheVariants.{Past, Along}
use Rattle.measure.specs.Sides.{sided, risen}
use Rattle.measure.specs.Ints.{abs_product}
use Rattle.measure.specs.Runs.{greatest_small}
use Rattle.measure.specs.Rounded.{rounded_least}
use Rattle.measure.proofs.Serves.{rounded_serves}
use Rattle.measure.specs.Points.{on}
use Rattle.measure.specs.Swept.{cross_small}
use Rattle.measure.specs.Offs.{inside}

-- ---- the two numbers of a side, 0 where the point has the other

abbrev pub past : Side → ℕ
past (Past d) = d
past (Along c) = 0

abbrev pub along : Side → ℕ
along (Past d) = 0
along (Along c) = c

abbrev pub past_at : List Point → ℕ → ℕ → ℕ → ℕ
past_at ps i j k = past (sided (numbered ps i) (numbered ps j) (numbered ps k))

abbrev pub along_at : List Point → ℕ → ℕ → ℕ → ℕ
along_at ps i j k = along (sided (numbered ps i) (numbered ps j) (numbered ps k))

-- ---- rounding up

pub risen_zero : (d : ℕ) → risen 0 d ≡ 0
risen_zero d = rw (zero-div, zero-mod)

risen_more : (a b d : ℕ) → 0 < d → a ≤ b → risen a d ≤ risen b d
risen_more a b d p h = rounded_least (a * a) d (risen b d) p (omega (arith, mul-le a a b b h h, rounded_serves (b * b) d p))

risen_ordered : (a b d : ℕ) → 0 < d → a ≤ b → risen (max a b) d ≡ max (risen a d) (risen b d)
risen_ordered a b d p h =
    let e : max a b ≡ b = omega arith in
    let m = risen_more a b d p h in
    let f : max (risen a d) (risen b d) ≡ risen b d = omega (arith, m) in
    ap (λ (n : ℕ). risen n d) e ∙ sym f

risen_max : (a b d : ℕ) → 0 < d → risen (max a b) d ≡ max (risen a d) (risen b d)
risen_max a b d p =
    ⊎_elim
    (λ h. risen_ordered a b d p (le_of_lt h))
    (λ h.
    let e : max a b ≡ max b a = omega arith in
    let f : max (risen a d) (risen b d) ≡ max (risen b d) (risen a d) = omega arith in
    ap (λ (n : ℕ). risen n d) e ∙ (risen_ordered b a d p h ∙ sym f))
    (cases_lt a b)

-- ---- one point

two_parts : (b d : Bool) (x y c w : ℕ) → cond b x (cond d y (risen c w)) ≡ max (past (cond b (Past x) (cond d (Past y) (Along c)))) (risen (along (cond b (Past x) (cond d (Past y) (Along c)))) w)
two_parts true d x y c w = let e = risen_zero w in omega (arith, e)
two_parts false true x y c w = let e = risen_zero w in omega (arith, e)
two_parts false false x y c w = omega arith

off_parts : (p q k : Point) → off p q k ≡ max (past (sided p q k)) (risen (along (sided p q k)) (nat_abs (dot p q q)))
off_parts p q k =
    let w = nat_abs (dot p q q) in
    ap (λ (n : ℕ). cond (le_z (dot p k q) (pos 0)) (nat_abs (dot p k k)) (cond (le_z (dot p q q) (dot p k q)) (nat_abs (dot q k k)) (rounded_up n w))) (abs_product (cross p q k) (cross p q k))
    ∙ two_parts (le_z (dot p k q) (pos 0)) (le_z (dot p q q) (dot p k q)) (nat_abs (dot p k k)) (nat_abs (dot q k k)) (nat_abs (cross p q k)) w

-- ---- all points

module _ (f g h : ℕ → ℕ) (d a : ℕ) (e : (k : ℕ) → f k ≡ max (g k) (risen (h k) d)) where
  greatest_parts : (n : ℕ) → 0 < d → gathered max 0 f a n ≡ max (gathered max 0 g a n) (risen (gathered max 0 h a n) d)
  greatest_parts zero p = let z = risen_zero d in omega (arith, z)
  greatest_parts (suc n) p =
      omega (arith, greatest_parts n p, e (a + n), risen_max (gathered max 0 h a n) (h (a + n)) d p)

  -- where no point stands along the segment
  greatest_past : (n : ℕ) → gathered max 0 h a n ≡ 0 → gathered max 0 f a n ≡ gathered max 0 g a n
  greatest_past zero z = refl
  greatest_past (suc n) z =
      let w : h (a + n) ≡ 0 = omega (arith, z) in
      let one : f (a + n) ≡ max (g (a + n)) (risen 0 d) = rw w at (e (a + n)) in
      omega (arith, greatest_past n (omega (arith, z)), one, risen_zero d)

-- ---- how large the cross products are

high : (b d : Bool) (x y c m w : ℕ) → c ≤ m → (b ≡ false → d ≡ false → 0 < w) → along (cond b (Past x) (cond d (Past y) (Along c))) ≤ m * w
high true d x y c m w f g = omega arith
high false true x y c m w f g = omega arith
high false false x y c m w f g = let l = mul-le m 1 m w (omega arith) (g refl refl) in omega (arith, l)

along_small : (p q k : Point) → On p → On q → On k → along (sided p q k) ≤ 134184962 * nat_abs (dot p q q)
along_small p q k f g h =
    high (le_z (dot p k q) (pos 0)) (le_z (dot p q q) (dot p k q)) (nat_abs (dot p k k)) (nat_abs (dot q k k)) (nat_abs (cross p q k)) 134184962 (nat_abs (dot p q q))
    (cross_small p q k f g h)
    (λ a b. inside (dot p k q) (dot p q q) a b)

-- ---- the distance

-- the square of the chord's length
abbrev pub whole_of : List Point → ℕ → ℕ → ℕ
whole_of ps i j = nat_abs (dot (numbered ps i) (numbered ps j) (numbered ps j))

-- the greatest past the ends and the greatest along, over the first n points
abbrev pub most_past : List Point → ℕ → ℕ → ℕ → ℕ
most_past ps i j n = gathered max 0 (past_at ps i j) (i + 1) n

abbrev pub most_along : List Point → ℕ → ℕ → ℕ → ℕ
most_along ps i j n = gathered max 0 (along_at ps i j) (i + 1) n

module _ (ps : List Point) (i j : ℕ) (l : Lawful ps) (c : Chord ps i j) where
  pub alongs_small : most_along ps i j (j - (i + 1)) ≤ 134184962 * whole_of ps i j
  alongs_small =
      greatest_small (along_at ps i j) (i + 1) (j - (i + 1)) (134184962 * whole_of ps i j)
      (λ k p q. along_small (numbered ps i) (numbered ps j) (numbered ps k) (on ps i l (omega arith) (omega arith)) (on ps j l (omega arith) (omega arith)) (on ps k l (omega arith) (omega arith)))

  pub distance_is : distance_error ps i j ≡ max (most_past ps i j (j - (i + 1))) (risen (most_along ps i j (j - (i + 1))) (whole_of ps i j))
  distance_is =
      let w = whole_of ps i j in
      let m = most_along ps i j (j - (i + 1)) in
      let e : (k : ℕ) → off_at ps i j k ≡ max (past_at ps i j k) (risen (along_at ps i j k) w) = λ k. off_parts (numbered ps i) (numbered ps j) (numbered ps k) in
      ⊎_elim
      (λ some. greatest_parts (off_at ps i j) (past_at ps i j) (along_at ps i j) w (i + 1) e (j - (i + 1)) some)
      (λ none.
      let z : m ≡ 0 = omega (arith, alongs_small) in
      let r : risen m w ≡ 0 = ap (λ (n : ℕ). risen n w) z ∙ risen_zero w in
      omega (arith, greatest_past (off_at ps i j) (past_at ps i j) (along_at ps i j) w (i + 1) e (j - (i + 1)) z, r))
      (cases_lt 0 w)
