-- What the code knows past its first checks, where the filled tables hold a pair of the last point.
use Rattle.std.proofs.Common.{◌≡◌, ℕ, ◌+◌, ◌-◌, ◌<◌, false, List, Some, ap, subst, arith}
use Rattle.std.proofs.lemmas.Option.{cond_some}
use Rattle.total.specs.declared.pair.Pair.{Pair}
use Rattle.reducer.specs.declared.tables.Tables.{Tables}
use Rattle.reducer.specs.Asked.{lent_with, HasRoom, SameTables}
use Rattle.reducer.specs.Chains.{Task, Relaxed, Answered}
use Rattle.reducer.specs.Outcome.{Searched}
use Rattle.reducer.specs.Reduced.{short}
use Rattle.reducer.specs.Scan.{held}
use Rattle.reducer.specs.Trail.{trail, Led}
use Rattle.reducer.proofs.Computed.{untight}
use Rattle.reducer.proofs.Optimal.{Sound, entry_few}
use Rattle.reducer.proofs.Walks.{walked}

module _ {A : Type 0} (k : Task A) (n m : ℕ) (b a : Tables A) (ls : List ℕ) (p : Pair A) where
  pub record Ends : Type 0 where
    pub few : p.chords < 512
    pub led : Led a.preds.now m (p.chords + 1)
    pub answered : Answered k n (p.chords + 1 - 1) p.total (trail a.preds.now m (p.chords + 1))
    pub searched : (new : List ℕ) → Searched k n (lent_with b ls) (lent_with a new)

  -- the code has the stroke's length as m
  pub ends : Sound k n → m ≡ n → (m ≡ 0 → ⊥) → short m (lent_with b ls) ≡ false → SameTables b a →
      Relaxed k n b.counts.now b.preds.now b.totals.now a.counts.now a.preds.now a.totals.now → held k.start a.counts.now a.totals.now m ≡ Some p → Ends
  ends ok e some long same relaxed is =
      let room : HasRoom n b = subst (λ x. HasRoom x b) e (untight m _ _ _ long) in
      let q = cond_some _ _ _ is in
      let walk = walked k n ok a.counts.now a.preds.now a.totals.now (omega (arith, room.1, same.long_preds)) relaxed.filled m e (omega (arith, some)) q.0 in
      let few = entry_few k n ok m _ _ _ (relaxed.filled m (omega (arith, some)) (omega arith)) in
      record {
        few = omega (arith, few, ap (λ (x : Pair A). x.chords) q.1);
        led = subst (λ (x : Pair A). Led a.preds.now m (x.chords + 1)) q.1 walk.0;
        answered = subst (λ (x : Pair A). Answered k n (x.chords + 1 - 1) x.total (trail a.preds.now m (x.chords + 1))) q.1 walk.1;
        searched = λ new. record { some = omega (arith, e, some); tolerated = ok.tolerated; room = room; relaxed = relaxed };
      }
