-- One more entry of the tables.
use Rattle.std.proofs.Common.{◌≡◌, ℕ, ◌-◌, ◌<◌, ◌≤◌, ◌≢◌, List, length, get_or, drop, set, Option, sym, ap, ◌∙◌, subst, ⊎_elim, arith}
use Rattle.std.specs.Option.{unwrap_or}
use Rattle.std.proofs.lemmas.Bool.{cases_lt}
use Rattle.std.proofs.lemmas.List.{get_or-set_same, get_or-set_other, drop-set-lt}
use Rattle.reducer.specs.declared.step.Step.{Step}
use Rattle.reducer.specs.declared.tables.Tables.{Tables}
use Rattle.reducer.specs.Chains.{Task, Entry, Filled}
use Rattle.reducer.specs.Scan.{offer, scan, entered, no_step}
use Rattle.reducer.specs.Asked.{SameTables}
use Rattle.reducer.proofs.Scans.{entered_by}
use Rattle.reducer.proofs.Optimal.{Sound, next}

pub same_tables : {A : Type 0} {a b c : Tables A} → SameTables a b → SameTables b c → SameTables a c
same_tables p q = record {
  counts = q.counts ∙ p.counts;
  preds = q.preds ∙ p.preds;
  totals = q.totals ∙ p.totals;
  long_counts = q.long_counts ∙ p.long_counts;
  long_preds = q.long_preds ∙ p.long_preds;
  long_totals = q.long_totals ∙ p.long_totals;
}

module _ {A : Type 0} (k : Task A) where
  -- the tables a are filled up to j, and after n they hold what b holds
  pub record Partly (j n : ℕ) (b a : Tables A) : Type 0 where
    pub filled : Filled k j a.counts.now a.preds.now a.totals.now
    pub counts_kept : drop n a.counts.now ≡ drop n b.counts.now
    pub preds_kept : drop n a.preds.now ≡ drop n b.preds.now
    pub totals_kept : drop n a.totals.now ≡ drop n b.totals.now

  filled_more : (cs ps : List ℕ) (ts : List A) (j : ℕ) (s : Step A) → 1 ≤ j → (j ≤ length cs) × (j ≤ length ps) × (j ≤ length ts) → Filled k (j - 1) cs ps ts → Entry k j s.pair.chords s.from s.pair.total → Filled k j (set cs (j - 1) s.pair.chords) (set ps (j - 1) s.from) (set ts (j - 1) s.pair.total)
  filled_more cs ps ts j s low room filled entry i a b =
      ⊎_elim
      (λ (h : i < j).
      let ne : i - 1 ≢ j - 1 = omega arith in
      rw (get_or-set_other cs (j - 1) (i - 1) s.pair.chords 0 ne, get_or-set_other ps (j - 1) (i - 1) s.from 0 ne, get_or-set_other ts (j - 1) (i - 1) s.pair.total k.start ne) (filled i a (omega arith)))
      (λ (h : j ≤ i).
      let same : j ≡ i = omega arith in
      let hc : j - 1 < length cs = omega (arith, room.0) in
      let hp : j - 1 < length ps = omega (arith, room.1) in
      let ht : j - 1 < length ts = omega (arith, room.2) in
      subst (λ x. Entry k x (get_or (set cs (j - 1) s.pair.chords) (x - 1) 0) (get_or (set ps (j - 1) s.from) (x - 1) 0) (get_or (set ts (j - 1) s.pair.total) (x - 1) k.start)) same
      (rw (get_or-set_same cs (j - 1) s.pair.chords 0 hc, get_or-set_same ps (j - 1) s.from 0 hp, get_or-set_same ts (j - 1) s.pair.total k.start ht) entry))
      (cases_lt i j)

  -- what the search finds of j is written
  module _ (n : ℕ) (ok : Sound k n) (b a a' : Tables A) (room : (n ≤ length b.counts.now) × (n ≤ length b.preds.now) × (n ≤ length b.totals.now)) (same : SameTables b a) (j : ℕ) (low : 1 ≤ j) (high : j ≤ n) where
    pub partly_more : (found : Option (Step A)) (none s : Step A) → Partly (j - 1) n b a →
        found ≡ scan k.order (offer k a.counts.now a.totals.now j) (j - 1) → none ≡ no_step k.start → s ≡ unwrap_or found none →
        a'.counts.now ≡ set a.counts.now (j - 1) s.pair.chords → a'.preds.now ≡ set a.preds.now (j - 1) s.from → a'.totals.now ≡ set a.totals.now (j - 1) s.pair.total →
        (m : ℕ) → j ≡ m → Partly m n b a'
    partly_more found none s p is_found is_none is ec ep et m em =
        let hc : j ≤ length a.counts.now = omega (arith, room.0, same.long_counts) in
        let hp : j ≤ length a.preds.now = omega (arith, room.1, same.long_preds) in
        let ht : j ≤ length a.totals.now = omega (arith, room.2, same.long_totals) in
        let step : entered k.start (scan k.order (offer k a.counts.now a.totals.now j) (j - 1)) ≡ s = sym (is ∙ ap (λ o. unwrap_or o none) is_found ∙ ap (unwrap_or (scan k.order (offer k a.counts.now a.totals.now j) (j - 1))) is_none ∙ entered_by k.start (scan k.order (offer k a.counts.now a.totals.now j) (j - 1))) in
        let f = filled_more a.counts.now a.preds.now a.totals.now j s low (hc, hp, ht) p.filled
        (subst (λ (s : Step A). Entry k j s.pair.chords s.from s.pair.total) step (next k n ok a.counts.now a.preds.now a.totals.now j low p.filled)) in
        let under : j - 1 < n = omega arith in
        subst (λ m. Partly m n b a') em (record {
          filled = rw (ec, ep, et) f;
          counts_kept = rw ec (drop-set-lt _ _ _ _ under ∙ p.counts_kept);
          preds_kept = rw ep (drop-set-lt _ _ _ _ under ∙ p.preds_kept);
          totals_kept = rw et (drop-set-lt _ _ _ _ under ∙ p.totals_kept);
        })
