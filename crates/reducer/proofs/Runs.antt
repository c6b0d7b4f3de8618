-- A full history with one call more.
use Rattle.std.proofs.Common.{◌≡◌, ℕ, ◌≤◌, ◌⊎◌, List, [], ◌∷◌, ◌++◌, Option, sym, refl, ap, ◌∙◌, subst, inl, inr, ⊎_elim, arith}
use Rattle.tray.specs.declared.point.Point.{Point}
use Rattle.tray.specs.History.{State, Pen, down, up, at_pen, step, Call, reduce, History, ◌▸◌}
use Rattle.tray.specs.Drawn.{Drawn, fresh, reduced, Permits}
use Rattle.reducer.specs.Chains.{LawfulChain, alone, more}
use Rattle.tray.specs.Reductions.{Reduction, Reply, answered, refused}
use Rattle.reducer.specs.Law.{Right, Law, Wider, KeepsNoMore, KeepsIfAnswered, Whole}
use Rattle.reducer.specs.Runs.{Met, EachRight, TwoAgree, Run, GoesOn, NoReduce, StepsGoOn}
use Rattle.tray.proofs.Drawns.{drawn_is, drawn_step}

no_cons : {X : Type 0} (x : X) (xs : List X) → [] ≡ x ∷ xs → ⊥
no_cons x xs e = let z : ◌≡◌ {A = ℕ} 0 1 = cc in omega arith

heads : {X : Type 0} (x y : X) (xs ys : List X) → x ∷ xs ≡ y ∷ ys → x ≡ y
heads x y xs ys e = cc

tails : {X : Type 0} (x y : X) (xs ys : List X) → x ∷ xs ≡ y ∷ ys → xs ≡ ys
tails x y xs ys e = cc

-- where an element of a list with one more at its end stands
module _ {X : Type 0} (c x : X) where
  abbrev Place : List X → List X → Type 0
  Place h bs = ((c ≡ x) × (h ≡ bs)) ⊎ ((rest : List X) × (h ≡ bs ++ (x ∷ rest)))

  after_same : (a b : X) (h bs : List X) → a ≡ b → Place h bs → Place (a ∷ h) (b ∷ bs)
  after_same a b h bs e p = elim p [
    | inl q ↦ inl (q.0, ap (λ y. y ∷ h) e ∙ ap (λ ys. b ∷ ys) q.1)
    | inr q ↦ inr (q.0, ap (λ y. y ∷ h) e ∙ ap (λ ys. b ∷ ys) q.1)
  ]

  not_nil : (ys zs : List X) → [] ≡ ys ++ (x ∷ zs) → ⊥
  not_nil [] zs f = no_cons _ _ f
  not_nil (y ∷ ys) zs f = no_cons _ _ f

  pub placed : (h bs rest : List X) → h ++ (c ∷ []) ≡ bs ++ (x ∷ rest) → Place h bs
  placed [] [] rest e = inl (heads _ _ _ _ e, refl)
  placed [] (b ∷ bs) rest e = absurd (not_nil bs rest (tails _ _ _ _ e))
  placed (a ∷ h) [] rest e = inr (h, ap (λ y. y ∷ h) (heads _ _ _ _ e))
  placed (a ∷ h) (b ∷ bs) rest e = after_same a b h bs (heads _ _ _ _ e) (placed h bs rest (tails _ _ _ _ e))

-- a reduce of h with one call more is one of h, or that call
met_more : (h : History) (c : Call) (stroke : List Point) (r : Reduction) → Met (h ▸ c) stroke r → Met h stroke r ⊎ ((c ≡ reduce r) × Drawn h up stroke)
met_more h c stroke r m = elim (placed c (reduce r) h m.before m.after m.whole) [
  | inl q ↦ inr (q.0, let P : History → Type 0 = λ g. Drawn g up stroke in subst P (sym q.1) m.drawn)
  | inr q ↦ inl (record { before = m.before; after = q.0; whole = q.1; drawn = m.drawn })
]

-- one history makes one stroke
same_stroke : (h : History) (ps qs : List Point) → Drawn h up ps → Drawn h up qs → ps ≡ qs
same_stroke h ps qs d e = ap (λ (s : State). s.points) (sym (drawn_is d) ∙ drawn_is e)

-- a lawful chain stays one where the tolerance grows
module _ (f g : ℕ → ℕ → Option ℕ) (t u : ℕ) (same : (i j : ℕ) → f i j ≡ g i j) (le : t ≤ u) where
  pub chain_wider : {ks : List ℕ} {j : ℕ} {es : List ℕ} → LawfulChain f t ks j es → LawfulChain g u ks j es
  chain_wider alone = alone
  chain_wider (more {ks} {es} {i} {j} {e} c rise l) = more (chain_wider c) rise (sym (same i j) ∙ l.0, omega (arith, l.1))

keeps_no_more : (stroke : List Point) (r w : Reduction) → ((ks es : List ℕ) → Whole stroke r ks es → Whole stroke w ks es) →
    (x y : Reply) → KeepsIfAnswered stroke r x → KeepsIfAnswered stroke w y → KeepsNoMore x y
keeps_no_more stroke r w on (answered ks m t) (answered ls n u) a b = let e = a.counted in omega (arith, b.fewest ks a.errors (on ks a.errors a.lawful))
keeps_no_more stroke r w on (answered ks m t) (refused q) a b = tt
keeps_no_more stroke r w on (refused q) y a b = tt

pub wider : (stroke : List Point) (r w : Reduction) → Right stroke r → Right stroke w →
    ((i j : ℕ) → r.meaning stroke i j ≡ w.meaning stroke i j) → r.tolerance ≤ w.tolerance → Wider stroke r w
wider stroke r w a b same le =
    let on : (ks es : List ℕ) → Whole stroke r ks es → Whole stroke w ks es = λ ks es. chain_wider (r.meaning stroke) (w.meaning stroke) r.tolerance w.tolerance same le in
    record { still_lawful = on; no_more = keeps_no_more stroke r w on r.reply w.reply a.keeps b.keeps }

pub two_agree : (h g : History) → EachRight h → EachRight g → TwoAgree h g
two_agree h g a b stroke r w m n same le = wider stroke r w (a stroke r m) (b stroke w n) same le

made_run : (h : History) (pen : Pen) (stroke : List Point) → Drawn h pen stroke → EachRight h → Run h pen stroke
made_run h pen stroke d a = record { drawn = d; each = a; alone = two_agree h h a a; beside = λ g b. (two_agree h g a b, two_agree g h b a) }

-- what holds of each reduce of a history goes on holding
module _ (P : List Point → Reduction → Type 0) where
  abbrev pub Each : History → Type 0
  Each h = (stroke : List Point) (r : Reduction) → Met h stroke r → P stroke r

  pub each_more : (h : History) (c : Call) → ((r : Reduction) → c ≡ reduce r → ⊥) → Each h → Each (h ▸ c)
  each_more h c p a stroke r m = ⊎_elim (λ q. a stroke r q) (λ q. absurd (p r q.0)) (met_more h c stroke r m)

  same_reduction : (r w : Reduction) → ◌≡◌ {A = Call} (reduce r) (reduce w) → r ≡ w
  same_reduction r w e = cc

  pub each_reduce : (h : History) (ps : List Point) (w : Reduction) → Drawn h up ps → P ps w → Each h → Each (h ▸ reduce w)
  each_reduce h ps w d x a stroke r m = ⊎_elim (λ q. a stroke r q)
      (λ q. subst (λ qs. P qs r) (same_stroke h ps stroke d q.1) (subst (λ v. P ps v) (same_reduction w r q.0) x))
      (met_more h (reduce w) stroke r m)

pub met_nothing : (stroke : List Point) (r : Reduction) → Met [] stroke r → ⊥
met_nothing stroke r m = not_nil (reduce r) (reduce r) m.before m.after m.whole

pub run_new : Run [] down []
run_new = made_run [] down [] fresh (λ stroke r m. absurd (met_nothing stroke r m))

pub no_reduce : (c : Call) → NoReduce c → (r : Reduction) → c ≡ reduce r → ⊥
no_reduce c n r e = subst NoReduce e n

run_on : (s : State) (c : Call) → NoReduce c → Permits s.pen c → GoesOn s c (step s c)
run_on s c n q h l =
    made_run (h ▸ c) (step s c).pen (step s c).points (drawn_step s.pen s.points c q l.drawn) (each_more Right h c (no_reduce c n) l.each)

pub steps_go_on : StepsGoOn
steps_go_on = record { begins = run_new; goes_on = run_on }

pub run_reduce : (ps : List Point) (w : Reduction) → Right ps w → GoesOn (at_pen up ps) (reduce w) (at_pen up ps)
run_reduce ps w x h l = made_run (h ▸ reduce w) up ps (reduced w l.drawn) (each_reduce Right h ps w l.drawn x l.each)

pub law : (ps : List Point) (r : Reduction) → Right ps r → Law ps r
law ps r x = record { right = x; narrower = λ w v same le. wider ps w r v x same le; wider = λ w v same le. wider ps r w x v same le }
