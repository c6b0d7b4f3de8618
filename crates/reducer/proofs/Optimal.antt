-- What the scan finds from filled tables is the next entry of them.
use Rattle.std.proofs.Common.{◌≡◌, ℕ, ◌+◌, ◌-◌, ◌<◌, ◌≤◌, Bool, true, false, cond, ◌||◌, eqb, ltb, leb, List, [], ◌∷◌, ◌++◌, length, get_or, Some, None, Option, sym, refl, ap, ◌∙◌, subst, ⊎_elim, arith}
use mathlib.Core.List.{foldl-append}
use Rattle.std.proofs.lemmas.Bool.Decides.{nat_tests}
use Rattle.std.proofs.lemmas.Bool.{cases_Bool, cases_lt, both_ways, leb-true, le-leb}
use Rattle.std.proofs.lemmas.Option.{none-some, cond_some}
use Rattle.std.proofs.lemmas.List.{length_push, nil_from_length}
use Rattle.total.specs.Laws.{Held, none, one, both, Laws, limit}
use Rattle.reducer.specs.Chains.{Task, Lawful, Chain, alone, more, total, Best, Turns, Cut, Entry, origin, unreached, reached, Filled}
use Rattle.reducer.specs.Scan.{scan, extend, offer, entered}
use Rattle.total.specs.Pairs.{better, pair}
use Rattle.total.specs.declared.pair.Pair.{Pair}
use Rattle.reducer.specs.declared.step.Step.{Step}
use Rattle.reducer.proofs.Least.{Least, Scanned, scan_least, better_irrefl}

-- what the code knows of a task on n points
pub record Sound {A : Type 0} (k : Task A) (n : ℕ) : Type 0 where
  pub laws : Laws k.start k.value k.join k.order
  pub few : n ≤ 512
  pub within : (i j e : ℕ) → k.error i j ≡ Some e → (1 ≤ i) × (i < j) × (j ≤ n)
  pub tolerated : k.tolerance ≤ limit

-- from the stroke's length as the code has it
pub sound : {A : Type 0} (k : Task A) (n m : ℕ) → Laws k.start k.value k.join k.order → ((i j e : ℕ) → k.error i j ≡ Some e → (1 ≤ i) × (i < j) × (j ≤ n)) →
    m ≡ n → m ≤ 512 → k.tolerance ≤ limit → Sound k n
sound k n m laws within e few le = record { laws = laws; few = omega arith; within = within; tolerated = le }

module _ {A : Type 0} (k : Task A) (n : ℕ) (ok : Sound k n) where
  pub total_push : (es : List ℕ) (e : ℕ) → total k (es ++ (e ∷ [])) ≡ k.join (total k es) (k.value e)
  total_push es e = foldl-append (λ t x. k.join t (k.value x)) k.start es (e ∷ [])

  pub chain_low : {ks es : List ℕ} {j : ℕ} → Chain k ks j es → (1 ≤ j) × (length es < j)
  chain_low alone = (omega arith, omega arith)
  chain_low (more {ks} {es} {i} {j} {e} c up l) =
      let h = chain_low c in
      let w = ok.within i j e l.0 in
      (omega arith, rw length_push (omega arith))

  pub few_chords : {ks es : List ℕ} {j : ℕ} → Chain k ks j es → length es ≤ 511
  few_chords alone = omega arith
  few_chords (more {ks} {es} {i} {j} {e} c up l) =
      let h = chain_low c in
      let w = ok.within i j e l.0 in
      let f = ok.few in
      rw length_push (omega arith)

  pub chain_held : {ks es : List ℕ} {j : ℕ} → Chain k ks j es → Held k.start k.value k.join (length es) (total k es)
  chain_held alone = none
  chain_held (more {ks} {es} {i} {j} {e} c up l) =
      let lim = ok.tolerated in
      let fine : e ≤ limit = omega (arith, l.1) in
      let h : Held k.start k.value k.join (length es + 1) (k.join (total k es) (k.value e)) = both (chain_held c) (one fine) in
      subst (λ m. Held k.start k.value k.join m (total k (es ++ (e ∷ [])))) (sym (length_push es e))
      (subst (λ t. Held k.start k.value k.join (length es + 1) t) (sym (total_push es e)) h)

  best_held : (j m : ℕ) (t : A) → Best k j m t → Held k.start k.value k.join m t × (m ≤ 511)
  best_held j m t b = (
    subst (λ x. Held k.start k.value k.join x t) b.chords (subst (λ y. Held k.start k.value k.join (length b.errors) y) b.sums (chain_held b.lawful)),
    let f = few_chords b.lawful in let e = b.chords in omega arith,
  )

  pub best_unique : (j m m' : ℕ) (t t' : A) → Best k j m t → Best k j m' t' → (m ≡ m') × (t ≡ t')
  best_unique j m m' t t' a b =
      let le : m ≤ length b.errors = a.fewest _ _ b.lawful in
      let ge : m' ≤ length a.errors = b.fewest _ _ a.lawful in
      let ea = a.chords in
      let eb = b.chords in
      let same : m ≡ m' = omega arith in
      let ab : k.order t t' ≡ true = subst (λ x. k.order t x ≡ true) b.sums (a.least _ _ b.lawful (omega arith)) in
      let ba : k.order t' t ≡ true = subst (λ x. k.order t' x ≡ true) a.sums (b.least _ _ a.lawful (omega arith)) in
      let ha = best_held j m t a in
      let hb = best_held j m' t' b in
      (same, ok.laws.same ha.0 hb.0 ha.1 hb.1 ab ba)

  start_order : k.order k.start k.start ≡ true
  start_order = ⊎_elim (λ e. e) (λ e. e) (ok.laws.either none none (omega arith) (omega arith))

  pub best_first : Best k 1 0 k.start
  best_first = record {
    points = 1 ∷ [];
    errors = [];
    lawful = alone;
    chords = refl;
    sums = refl;
    fewest = λ ks es c. omega arith;
    least = λ ks es c e. let empty = nil_from_length es e in subst (λ xs. k.order k.start (total k xs) ≡ true) (sym empty) start_order;
  }

  -- a point is marked as reached
  abbrev flag : ℕ → ℕ → Bool
  flag i c = eqb i 1 || ltb 0 c

  pub entry_best : (i c p : ℕ) (t : A) → Entry k i c p t → flag i c ≡ true → Best k i c t
  entry_best i c p t (origin e ec ep et) f =
      subst (λ x. Best k x c t) (sym e) (subst (λ x. Best k 1 x t) (sym ec) (subst (λ x. Best k 1 0 x) (sym et) best_first))
  entry_best i c p t (unreached cut ec ep et) f =
      let one : i ≡ 1 = grind (arith, nat_tests) in
      absurd (subst (λ x. Cut k x) one cut (1 ∷ []) [] alone)
  entry_best i c p t (reached b tu fi) f = b

  pub entry_cut : (i c p : ℕ) (t : A) → Entry k i c p t → flag i c ≡ false → Cut k i
  entry_cut i c p t (origin e ec ep et) f = absurd (grind (arith, nat_tests))
  entry_cut i c p t (unreached cut ec ep et) f = cut
  entry_cut i c p t (reached b tu fi) f = let h = tu.chords in absurd (grind (arith, nat_tests))

  -- what an offer is made of
  pub record Made (m : ℕ) (t : A) (b : Bool) (x : Option ℕ) (q : Pair A) : Type 0 where
    pub open_way : b ≡ true
    pub chord : ℕ
    pub answers : x ≡ Some chord
    pub allowed : chord ≤ k.tolerance
    pub is : q ≡ pair (m + 1) (k.join t (k.value chord))

  made : (m : ℕ) (t : A) (b : Bool) (x : Option ℕ) (q : Pair A) → cond b (extend k m t x) None ≡ Some q → Made m t b x q
  made m t false x q h = absurd (none-some q h)
  made m t true None q h = absurd (none-some q h)
  made m t true (Some e) q h =
      let l = cond_some (leb e k.tolerance) (pair (m + 1) (k.join t (k.value e))) q h in
      record { open_way = refl; chord = e; answers = refl; allowed = leb-true e k.tolerance l.0; is = sym l.1 }

  offers : (m : ℕ) (t : A) (b : Bool) (x : Option ℕ) (e : ℕ) → b ≡ true → x ≡ Some e → e ≤ k.tolerance → cond b (extend k m t x) None ≡ Some (pair (m + 1) (k.join t (k.value e)))
  offers m t b x e hb hx he = rw (hb, hx, le-leb e k.tolerance he)

  -- a chain that goes on by a lawful chord
  pub turns_chain : (i j m : ℕ) (t : A) (u : Turns k i j m t) → Chain k (u.best.points ++ (j ∷ [])) j (u.best.errors ++ (u.chord ∷ []))
  turns_chain i j m t u = more u.best.lawful (ok.within i j u.chord u.lawful.0).1 u.lawful

  pub turns_chords : (i j m : ℕ) (t : A) (u : Turns k i j m t) → length (u.best.errors ++ (u.chord ∷ [])) ≡ m
  turns_chords i j m t u = let a = u.best.chords in let b = u.chords in length_push u.best.errors u.chord ∙ omega arith

  pub turns_sums : (i j m : ℕ) (t : A) (u : Turns k i j m t) → total k (u.best.errors ++ (u.chord ∷ [])) ≡ t
  turns_sums i j m t u = total_push u.best.errors u.chord ∙ ap (λ x. k.join x (k.value u.chord)) u.best.sums ∙ sym u.sums

  turns_held : (i j m : ℕ) (t : A) → Turns k i j m t → Held k.start k.value k.join m t × (m ≤ 511)
  turns_held i j m t u =
      let c = turns_chain i j m t u in (
        subst (λ x. Held k.start k.value k.join x t) (turns_chords i j m t u) (subst (λ y. Held k.start k.value k.join (length (u.best.errors ++ (u.chord ∷ []))) y) (turns_sums i j m t u) (chain_held c)),
        let f = few_chords c in let e = turns_chords i j m t u in omega arith,
      )

  module _ (cs ps : List ℕ) (ts : List A) (j : ℕ)
      (filled : (i : ℕ) → 1 ≤ i → i < j → Entry k i (get_or cs (i - 1) 0) (get_or ps (i - 1) 0) (get_or ts (i - 1) k.start))
    where
      offer_turns : (i : ℕ) (q : Pair A) → offer k cs ts j i ≡ Some q → Turns k i j q.chords q.total
      offer_turns i q h =
          let m = made (get_or cs (i - 1) 0) (get_or ts (i - 1) k.start) (flag i (get_or cs (i - 1) 0)) (k.error i j) q h in
          let w = ok.within i j m.chord m.answers in
          record {
            chord = m.chord;
            count = get_or cs (i - 1) 0;
            sum = get_or ts (i - 1) k.start;
            best = entry_best i _ _ _ (filled i w.0 w.1) m.open_way;
            lawful = (m.answers, m.allowed);
            chords = ap (λ x. x.chords) m.is;
            sums = ap (λ x. x.total) m.is;
          }

      -- where a chain leads to i and a lawful chord from there to j, i makes an offer from its best pair
      pub record Offered (i e : ℕ) : Type 0 where
        pub best : Best k i (get_or cs (i - 1) 0) (get_or ts (i - 1) k.start)
        pub offers : offer k cs ts j i ≡ Some (pair (get_or cs (i - 1) 0 + 1) (k.join (get_or ts (i - 1) k.start) (k.value e)))

      chain_offer : (i e : ℕ) (ks es : List ℕ) → Chain k ks i es → Lawful k i j e → Offered i e
      chain_offer i e ks es c l =
          let w = ok.within i j e l.0 in
          let entry = filled i w.0 w.1 in
          ⊎_elim
          (λ f. record { best = entry_best i _ _ _ entry f; offers = offers (get_or cs (i - 1) 0) (get_or ts (i - 1) k.start) (flag i (get_or cs (i - 1) 0)) (k.error i j) e f l.0 l.1 })
          (λ f. absurd (entry_cut i _ _ _ entry f ks es c))
          (cases_Bool (flag i (get_or cs (i - 1) 0)))

      pub scanned : Scanned k.order (offer k cs ts j) (j - 1) (scan k.order (offer k cs ts j) (j - 1))
      scanned = scan_least k.order (offer k cs ts j)
          (λ n m p q hp hq. let a = turns_held n j p.chords p.total (offer_turns n p hp) in let b = turns_held m j q.chords q.total (offer_turns m q hq) in ok.laws.either a.0 b.0 a.1 b.1)
          (λ n m l p q r hp hq hr. let a = turns_held n j p.chords p.total (offer_turns n p hp) in let b = turns_held m j q.chords q.total (offer_turns m q hq) in let c = turns_held l j r.chords r.total (offer_turns l r hr) in ok.laws.trans a.0 b.0 c.0 a.1 b.1 c.1)
          (j - 1)

  -- a chain to a point past the first ends with a chord
  pub record Ends (j : ℕ) (es : List ℕ) : Type 0 where
    pub from : ℕ
    pub chord : ℕ
    pub points : List ℕ
    pub errors : List ℕ
    pub chain : Chain k points from errors
    pub lawful : Lawful k from j chord
    pub is : es ≡ errors ++ (chord ∷ [])

  ends : {ks es : List ℕ} {j : ℕ} → 2 ≤ j → Chain k ks j es → Ends j es
  ends h alone = absurd (omega arith)
  ends h (more {ks} {es} {i} {j} {e} c up l) = record { from = i; chord = e; points = ks; errors = es; chain = c; lawful = l; is = refl }

  before : (i j : ℕ) → i < j → i ≤ j - 1
  before i j h = omega arith

  module _ (cs ps : List ℕ) (ts : List A) (j : ℕ) (late : 2 ≤ j)
      (filled : (i : ℕ) → 1 ≤ i → i < j → Entry k i (get_or cs (i - 1) 0) (get_or ps (i - 1) 0) (get_or ts (i - 1) k.start))
    where
      pub next_cut : Scanned k.order (offer k cs ts j) (j - 1) None → Cut k j
      next_cut found ks es c =
          let d = ends late c in
          let o = chain_offer cs ps ts j filled d.from d.chord d.points d.errors d.chain d.lawful in
          let w = ok.within d.from j d.chord d.lawful.0 in
          found d.from _ w.0 (before _ _ w.1) o.offers

      module _ (s : Step A) (found : Least k.order (offer k cs ts j) (j - 1) s) where
        turn : Turns k s.from j s.pair.chords s.pair.total
        turn = offer_turns cs ps ts j filled s.from s.pair found.offers

        -- what is known of another chain to j: the offer at its last chord is not better than s
        record Rival (es : List ℕ) : Type 0 where
          pub count : ℕ
          pub sum : A
          pub chords : count ≤ length es
          pub sums : length es ≡ count → k.order sum (total k es) ≡ true
          pub worse : better k.order (pair count sum) s.pair ≡ false
          pub held : Held k.start k.value k.join count sum
          pub few : count ≤ 511

        rival : (ks es : List ℕ) → Chain k ks j es → Rival es
        rival ks es c =
            let d = ends late c in
            let i = d.from in
            let m = get_or cs (i - 1) 0 in
            let t = get_or ts (i - 1) k.start in
            let o = chain_offer cs ps ts j filled i d.chord d.points d.errors d.chain d.lawful in
            let w = ok.within i j d.chord d.lawful.0 in
            let u = offer_turns cs ps ts j filled i (pair (m + 1) (k.join t (k.value d.chord))) o.offers in
            let h = turns_held i j (m + 1) (k.join t (k.value d.chord)) u in
            let size : length es ≡ length d.errors + 1 = ap length d.is ∙ length_push d.errors d.chord in
            let fewer = o.best.fewest d.points d.errors d.chain in
            let rest = chain_held d.chain in
            let small = few_chords c in
            let fine : d.chord ≤ limit = omega (arith, d.lawful.1, ok.tolerated) in
            let kept = best_held i m t o.best in
            record {
              count = m + 1;
              sum = k.join t (k.value d.chord);
              chords = omega arith;
              sums = λ e.
                  let eq : length d.errors ≡ m = omega arith in
                  let le = o.best.least d.points d.errors d.chain eq in
                  let pushed : total k es ≡ k.join (total k d.errors) (k.value d.chord) = ap (total k) d.is ∙ total_push d.errors d.chord in
                  subst (λ x. k.order (k.join t (k.value d.chord)) x ≡ true) (sym pushed)
                  (ok.laws.after kept.0 rest (one fine) (omega arith) (omega arith) le);
              worse = found.best i _ w.0 (before _ _ w.1) o.offers;
              held = h.0;
              few = h.1;
            }

        worse_chords : {es : List ℕ} (r : Rival es) → s.pair.chords ≤ r.count
        worse_chords r = let h = r.worse in grind (arith, nat_tests)

        not_fewer : {es : List ℕ} (r : Rival es) → s.pair.chords ≤ length es
        not_fewer r = omega (arith, worse_chords r, r.chords)

        worse_total : {es : List ℕ} (r : Rival es) → r.count ≡ s.pair.chords → k.order s.pair.total r.sum ≡ true
        worse_total r e = let h = r.worse in grind (arith, nat_tests)

        next_best : Best k j s.pair.chords s.pair.total
        next_best = record {
          points = turn.best.points ++ (j ∷ []);
          errors = turn.best.errors ++ (turn.chord ∷ []);
          lawful = turns_chain s.from j s.pair.chords s.pair.total turn;
          chords = turns_chords s.from j s.pair.chords s.pair.total turn;
          sums = turns_sums s.from j s.pair.chords s.pair.total turn;
          fewest = λ ks es c. let r = rival ks es c in not_fewer r;
          least = λ ks es c e.
              let r = rival ks es c in
              let at_most = not_fewer r in
              let same : r.count ≡ s.pair.chords = omega (arith, r.chords, worse_chords r) in
              let le : k.order s.pair.total r.sum ≡ true = worse_total r same in
              let hs = turns_held s.from j s.pair.chords s.pair.total turn in
              ok.laws.trans hs.0 r.held (chain_held c) hs.1 r.few (few_chords c) le (r.sums (e ∙ sym same));
        }

        pub next_entry : Entry k j s.pair.chords s.from s.pair.total
        next_entry = reached next_best turn (λ i early u.
            let o = chain_offer cs ps ts j filled i u.chord u.best.points u.best.errors u.best.lawful u.lawful in
            let w = ok.within i j u.chord u.lawful.0 in
            let eq = best_unique i _ _ _ _ u.best o.best in
            let em = u.chords in
            let m : s.pair.chords ≡ get_or cs (i - 1) 0 + 1 = omega (arith, eq.0) in
            let t : s.pair.total ≡ k.join (get_or ts (i - 1) k.start) (k.value u.chord) = u.sums ∙ ap (λ x. k.join x (k.value u.chord)) eq.1 in
            let beat = found.first i _ w.0 early o.offers in
            let hs = turns_held s.from j s.pair.chords s.pair.total turn in
            let irr = better_irrefl k.order s.pair (ok.laws.either hs.0 hs.0 hs.1 hs.1) in
            let beat' : better k.order s.pair s.pair ≡ true = subst (λ x. better k.order s.pair (pair s.pair.chords x) ≡ true) (sym t) (subst (λ x. better k.order s.pair (pair x (k.join (get_or ts (i - 1) k.start) (k.value u.chord))) ≡ true) (sym m) beat) in
            both_ways (better k.order s.pair s.pair) irr beat')

  pub entry_few : (i c p : ℕ) (t : A) → Entry k i c p t → c < 512
  entry_few i c p t (origin e ec ep et) = omega arith
  entry_few i c p t (unreached cut ec ep et) = omega arith
  entry_few i c p t (reached b tu fi) = let h = best_held i c t b in omega arith

  module _ (cs ps : List ℕ) (ts : List A) (j : ℕ) (late : 2 ≤ j) (filled : Filled k (j - 1) cs ps ts) where
    below_j : (i : ℕ) → 1 ≤ i → i < j → Entry k i (get_or cs (i - 1) 0) (get_or ps (i - 1) 0) (get_or ts (i - 1) k.start)
    below_j i a b = filled i a (before i j b)

    entered_is : (o : Option (Step A)) → Scanned k.order (offer k cs ts j) (j - 1) o → let s = entered k.start o in Entry k j s.pair.chords s.from s.pair.total
    entered_is None h = unreached (next_cut cs ps ts j late below_j h) refl refl refl
    entered_is (Some s) h = next_entry cs ps ts j late below_j s h

    next_found : let s = entered k.start (scan k.order (offer k cs ts j) (j - 1)) in Entry k j s.pair.chords s.from s.pair.total
    next_found = entered_is (scan k.order (offer k cs ts j) (j - 1)) (scanned cs ps ts j below_j)

  -- the first entry says that nothing leads there
  pub next : (cs ps : List ℕ) (ts : List A) (j : ℕ) → 1 ≤ j → Filled k (j - 1) cs ps ts → let s = entered k.start (scan k.order (offer k cs ts j) (j - 1)) in Entry k j s.pair.chords s.from s.pair.total
  next cs ps ts j low filled =
      ⊎_elim
      (λ (h : j < 2).
      let one : 1 ≡ j = omega arith in
      subst (λ m. let s = entered k.start (scan k.order (offer k cs ts m) (m - 1)) in Entry k m s.pair.chords s.from s.pair.total) one (origin refl refl refl refl))
      (λ h. next_found cs ps ts j h filled)
      (cases_lt j 2)
