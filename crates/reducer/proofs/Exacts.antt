-- What the reducer promises of its tables makes each of its calls exact.
use Rattle.std.proofs.Common.{◌≡◌, ℕ, ◌<◌, ◌≤◌, List, length, Some, Ok, Err, Result, refl, ap, sym, inl, inr, arith}
use Rattle.refusal.specs.declared.Layer.TheVariants.{Tray}
use Rattle.refusal.specs.Said.{at_layer}
use Rattle.tray.specs.declared.point.Point.{Point}
use Rattle.tray.specs.declared.causes.Refusal.{Refusal}
use Rattle.tray.specs.declared.causes.Refusal.TheVariants.{OffSheet, StoppedClock, LongStroke, FullTray, BareTray, NoSuchPoint, WideTolerance, ShortTable, NoWay, ShortList}
use Rattle.tray.specs.History.{reduce, at_pen, up}
use Rattle.tray.specs.Reductions.{Meaning, Reduction}
use Rattle.tray.specs.Refusals.{told}
use Rattle.total.specs.declared.total.Total.{Ghosts}
use Rattle.total.specs.Laws.{Laws}
use Rattle.reducer.specs.declared.answer.Answer.{Answer}
use Rattle.reducer.specs.Chains.{task}
use Rattle.reducer.specs.Exact.{FirstChecks, Exact, ExactGoesOn, ExactStepsGoOn}
use Rattle.reducer.specs.Law as law
use Rattle.reducer.specs.Lent.{Lent}
use Rattle.reducer.specs.Outcome.{Searched, Outcome}
use Rattle.reducer.specs.Recorded.{reduction}
use Rattle.reducer.proofs.Rights.{sound, kept_to, answered_size}
use Rattle.reducer.proofs.Runs.{each_more, each_reduce, no_reduce, met_nothing}

module _ {A : Type 0} (g : Ghosts A) (m : Meaning) (stroke : List Point) (tol : ℕ) (b a : Lent A)
    (laws : Laws g.start g.value g.join g.order) (few : length stroke ≤ 512)
    (within : (i j e : ℕ) → m stroke i j ≡ Some e → (1 ≤ i) × (i < j) × (j ≤ length stroke)) where
  abbrev made : Result (Answer A) Refusal → Reduction
  made x = reduction g m tol b a x

  -- where the tables were filled, the first checks passed
  passed : (x : Result (Answer A) Refusal) → Searched (task g (m stroke) tol) (length stroke) b a → FirstChecks stroke (made x)
  passed x s = record {
    bare = λ e. absurd (omega (arith, s.some));
    wide = λ l w. absurd (omega (arith, s.tolerated));
    short = λ l t h. absurd (omega (arith, s.room));
  }

  -- a refusal before the search
  unsearched : (e : Refusal) → ((told e).number ≡ 9 → ⊥) → (law.Searched stroke (made (Err e)) → ⊥) → FirstChecks stroke (made (Err e)) → Exact stroke (made (Err e))
  unsearched e other n f = record { first_checks = f; fits = tt; truly_none = λ y. absurd (other y); none_told = λ s y. absurd (n s); otherwise = λ s y. absurd (n s) }

  pub exact : (x : Result (Answer A) Refusal) → Outcome (task g (m stroke) tol) (length stroke) b a x → Exact stroke (made x)
  exact (Ok v) o = record {
    first_checks = passed (Ok v) o.searched;
    fits = o.room;
    truly_none = λ y. absurd y;
    none_told = λ s y. y _ _ o.answered.lawful;
    otherwise = λ s y. inl tt;
  }
  exact (Err BareTray) o = unsearched BareTray (λ y. omega (arith, y)) (λ s. omega (arith, o.0, s.0))
      (record { bare = λ e. refl; wide = λ l w. absurd (omega (arith, o.0)); short = λ l t h. absurd (omega (arith, o.0)) })
  exact (Err WideTolerance) o = unsearched WideTolerance (λ y. omega (arith, y)) (λ s. omega (arith, o.1, s.1))
      (record { bare = λ e. absurd (omega (arith, o.0)); wide = λ l w. refl; short = λ l t h. absurd (omega (arith, o.1)) })
  exact (Err (ShortTable p)) o = unsearched (ShortTable p) (λ y. omega (arith, y)) (λ s. omega (arith, o.2, s.2))
      (record { bare = λ e. absurd (omega (arith, o.0)); wide = λ l w. absurd (omega (arith, o.1)); short = λ l t h. ap (at_layer Tray 8) o.3 })
  exact (Err (NoWay p)) o = record {
    first_checks = passed (Err (NoWay p)) o.0;
    fits = tt;
    truly_none = λ y. o.1;
    none_told = λ s y. ap (at_layer Tray 9) o.2;
    otherwise = λ s y. absurd (y o.1);
  }
  exact (Err (ShortList p)) o =
      let ok = sound g m stroke tol b a laws few within o.searched.tolerated in
      let e = answered_size g m stroke tol b a (Err (ShortList p)) within ok p o.total o.points o.counted o.answered in
      record {
        first_checks = passed (Err (ShortList p)) o.searched;
        fits = tt;
        truly_none = λ y. absurd (omega (arith, y));
        none_told = λ s y. absurd (y _ _ o.answered.lawful);
        otherwise = λ s y. inr ((o.points, (kept_to g m stroke tol b a (Err (ShortList p)) within ok o.answered.kept, omega (arith, e, o.room))), ap (at_layer Tray 10) (sym e));
      }
  exact (Err (OffSheet p)) o = absurd o
  exact (Err (StoppedClock p)) o = absurd o
  exact (Err (LongStroke p)) o = absurd o
  exact (Err FullTray) o = absurd o
  exact (Err (NoSuchPoint p)) o = absurd o

pub exact_reduce : (ps : List Point) (w : Reduction) → Exact ps w → ExactGoesOn (at_pen up ps) (reduce w) (at_pen up ps)
exact_reduce ps w x h d each = each_reduce Exact h ps w d x each

pub exact_steps : ExactStepsGoOn
exact_steps = record {
  begins = λ stroke r m. absurd (met_nothing stroke r m);
  goes_on = λ s c n q h d each. each_more Exact h c (no_reduce c n) each;
}
