-- Every history keeps the limits, and a put is taken exactly where they would still hold.
use Rattle.std.proofs.Common.{◌≡◌, ℕ, ◌+◌, ◌-◌, ◌<◌, ◌≤◌, true, false, ◌&&◌, ltb, leb, ◌⊎◌, List, [], ◌∷◌, ◌++◌, length, ℤ, is_ok, sym, refl, ap, ◌∙◌, subst, inl, inr, arith}
use borrow.Author.Differences.{ints}
use Rattle.std.proofs.lemmas.List.{get_or_append_left, get_or_push, length_push, length-set}
use Rattle.std.proofs.lemmas.Bool.{cases_eq, cases_Bool, ltb-false, leb-false, lt-ltb, both_ways}
use Rattle.std.proofs.lemmas.Bool.Decides.{nat_tests}
use Rattle.tray.specs.declared.point.Point.{Point}
use Rattle.tray.specs.declared.point.Mark.{Mark}
use Rattle.tray.specs.declared.point.Mark.TheVariants.{Plain, Corner}
use Rattle.tray.specs.Stroke.{at, origin, Lawful}
use Rattle.tray.specs.Machine.{refusal, off_sheet, stopped, late, full, plain, put_says, put_after, take_back_after, mark_after, lacks, marked}
use Rattle.tray.specs.History.{State, Pen, down, up, Call, put, take_back, lift, mark, unmark, clear, reduce, History, new, step, step_at, run}
use Rattle.tray.specs.Drawn.{StaysLawful, TakesTheLawful}
use Rattle.tray.proofs.Fronts.{lawful_front}
use Rattle.tray.proofs.Tables.{limits_turned}
use Rattle.tray.proofs.Puts.{Does, does_off, does_stopped, does_late, does_full, does_add}

bare : Lawful []
bare = record { few = omega arith; placed = λ k l. absurd (omega arith); rising = λ i j l m. absurd (omega arith); short = λ k l. absurd (omega arith) }

module _ (ps : List Point) (vx vy : ℤ) (vt : ℕ) where
  abbrev p : Point
  p = plain vx vy vt

  abbrev qs : List Point
  qs = ps ++ p ∷ []

  old : (k : ℕ) → k < length ps → at qs k ≡ at ps k
  old k l = get_or_append_left ps (p ∷ []) origin k l

  newest : at qs (length ps) ≡ p
  newest = get_or_push ps p origin (length ps) refl

  -- the last time is below the new one, and the new one is not late
  after_last : stopped ps vt ≡ false → 0 < length ps → (at ps (length ps - 1)).t < vt
  after_last e l = leb-false vt _ (sym (ap (λ b. b && leb vt (at ps (length ps - 1)).t) (lt-ltb 0 (length ps) l)) ∙ e)

  in_time : late ps vt ≡ false → 0 < length ps → vt ≤ (at ps 0).t + 8191
  in_time e l = ltb-false _ vt (sym (ap (λ b. b && ltb ((at ps 0).t + 8191) vt) (lt-ltb 0 (length ps) l)) ∙ e)

  pub pushed : Lawful ps → off_sheet vx vy ≡ false → stopped ps vt ≡ false → late ps vt ≡ false → full ps ≡ false → Lawful qs
  pushed w e f g h =
      let n : length qs ≡ length ps + 1 = length_push ps p in
      record {
        few = let r : length ps < 512 = leb-false 512 (length ps) h in omega arith;
        placed = λ k l. elim (cases_eq k (length ps)) [
          | inl z ↦ rw (z, newest) (grind (arith, ints), grind (arith, ints), grind (arith, ints), grind (arith, ints))
          | inr z ↦ let i : k < length ps = omega arith in rw (old k i) (w.placed k i)
        ];
        rising = λ i j l m. let a : i < length ps = omega arith in elim (cases_eq j (length ps)) [
          | inl z ↦ rw (z, newest, old i a) (elim (cases_eq i (length ps - 1)) [
            | inl y ↦ rw y (after_last f (omega arith))
            | inr y ↦ omega (arith, w.rising i (length ps - 1) (omega arith) (omega arith), after_last f (omega arith))
          ])
          | inr z ↦ let b : j < length ps = omega arith in rw (old i a, old j b) (w.rising i j l b)
        ];
        short = λ k l. elim (cases_eq (length ps) 0) [
          | inl z ↦ let y : k ≡ 0 = omega arith in rw y (omega arith)
          | inr z ↦ let o : 0 < length ps = omega arith in rw (old 0 o) (elim (cases_eq k (length ps)) [
            | inl y ↦ rw (y, newest) (in_time g o)
            | inr y ↦ let i : k < length ps = omega arith in rw (old k i) (w.short k i)
          ])
        ];
      }

  -- where the limits hold with the new point, no cause does
  pub on_sheet : Lawful qs → off_sheet vx vy ≡ false
  on_sheet w =
      let n : length qs ≡ length ps + 1 = length_push ps p in
      let h = rw newest at (w.placed (length ps) (omega arith)) in
      grind (arith, ints)

  pub rises : Lawful qs → stopped ps vt ≡ false
  rises w = elim (cases_eq (length ps) 0) [
    | inl z ↦ rw z
    | inr z ↦
        let n : length qs ≡ length ps + 1 = length_push ps p in
        let k : length ps - 1 < length ps = omega arith in
        let h = rw (newest, old (length ps - 1) k) at (w.rising (length ps - 1) (length ps) k (omega arith)) in
        grind (arith, nat_tests)
  ]

  pub not_late : Lawful qs → late ps vt ≡ false
  not_late w = elim (cases_eq (length ps) 0) [
    | inl z ↦ rw z
    | inr z ↦
        let n : length qs ≡ length ps + 1 = length_push ps p in
        let k : 0 < length ps = omega arith in
        let h = rw (newest, old 0 k) at (w.short (length ps) (omega arith)) in
        grind (arith, nat_tests)
  ]

  pub not_full : Lawful qs → full ps ≡ false
  not_full w = let n : length qs ≡ length ps + 1 = length_push ps p in let f = w.few in grind (arith, nat_tests)

  pub taken : Lawful qs → is_ok (put_says ps vx vy vt) ≡ true
  taken w = sym (ap is_ok (does_add ps vx vy vt (on_sheet w) (rises w) (not_late w) (not_full w)).0)

  refused : {n q : ℕ} → Does ps vx vy vt (refusal n q) ps → (put_after ps vx vy vt ≡ ps) × (is_ok (put_says ps vx vy vt) ≡ false)
  refused d = (sym d.1, sym (ap is_ok d.0))

  -- either some cause holds, and nothing changes, or none does
  pub outcome : ((put_after ps vx vy vt ≡ ps) × (is_ok (put_says ps vx vy vt) ≡ false))
      ⊎ ((off_sheet vx vy ≡ false) × (stopped ps vt ≡ false) × (late ps vt ≡ false) × (full ps ≡ false))
  outcome = elim (cases_Bool (off_sheet vx vy)) [
    | inl e ↦ inl (refused (does_off ps vx vy vt e))
    | inr e ↦ elim (cases_Bool (stopped ps vt)) [
      | inl f ↦ inl (refused (does_stopped ps vx vy vt e f))
      | inr f ↦ elim (cases_Bool (late ps vt)) [
        | inl g ↦ inl (refused (does_late ps vx vy vt e f g))
        | inr g ↦ elim (cases_Bool (full ps)) [
          | inl h ↦ inl (refused (does_full ps vx vy vt e f g h))
          | inr h ↦ inr (e, f, g, h)
        ]
      ]
    ]
  ]

  pub kept_by_put : Lawful ps → Lawful (put_after ps vx vy vt)
  kept_by_put w = elim outcome [
    | inl o ↦ subst Lawful (sym o.0) w
    | inr o ↦ subst Lawful (does_add ps vx vy vt o.0 o.1 o.2 o.3).1 (pushed w o.0 o.1 o.2 o.3)
  ]

  pub lawful_taken : Lawful ps → is_ok (put_says ps vx vy vt) ≡ true → Lawful qs
  lawful_taken w a = elim outcome [
    | inl o ↦ let z : true ≡ false = sym a ∙ o.1 in absurd (both_ways true z refl)
    | inr o ↦ pushed w o.0 o.1 o.2 o.3
  ]

kept_by_take_back : (ps : List Point) → Lawful ps → Lawful (take_back_after ps)
kept_by_take_back ps w =
    lawful_front ps (length ps - 1) (omega arith) (omega (arith, w.few))
    (λ k l. w.placed k (omega arith)) (λ i j l m. w.rising i j l (omega arith)) (λ k l. w.short k (omega arith))

kept_by_mark : (b : Mark) (ps : List Point) (i : ℕ) → Lawful ps → Lawful (mark_after b ps i)
kept_by_mark b ps i w = elim (cases_Bool (lacks ps i)) [
  | inl e ↦ rw e w
  | inr e ↦
      let h : i - 1 < length ps = grind (arith, nat_tests) in
      let n = length-set ps (i - 1) (marked b (at ps (i - 1))) in
      let k = limits_turned ps (i - 1) b h (length ps) w.placed w.rising w.short in
      rw e (record { few = rw n w.few; placed = rw n k.0; rising = rw n k.1; short = rw n k.2 })
]

kept_at : (n : Pen) (ps : List Point) (c : Call) → Lawful ps → Lawful (step_at n ps c).points
kept_at down ps (put x y t) w = kept_by_put ps x y t w
kept_at down ps take_back w = kept_by_take_back ps w
kept_at down ps lift w = w
kept_at down ps (mark i) w = w
kept_at down ps (unmark i) w = w
kept_at down ps clear w = bare
kept_at down ps (reduce r) w = w
kept_at up ps (put x y t) w = w
kept_at up ps take_back w = w
kept_at up ps lift w = w
kept_at up ps (mark i) w = kept_by_mark Corner ps i w
kept_at up ps (unmark i) w = kept_by_mark Plain ps i w
kept_at up ps clear w = bare
kept_at up ps (reduce r) w = w

kept_by_run : (s : State) (h : History) → Lawful s.points → Lawful (run s h).points
kept_by_run s [] w = w
kept_by_run s (c ∷ h) w = kept_by_run (step s c) h (kept_at s.pen s.points c w)

pub stays_lawful : StaysLawful
stays_lawful h = kept_by_run new h bare

pub takes_the_lawful : TakesTheLawful
takes_the_lawful ps vx vy vt w = (lawful_taken ps vx vy vt w, taken ps vx vy vt)
