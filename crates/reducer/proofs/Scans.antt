-- The step of a scan, and what is entered of what it found.
use Rattle.std.proofs.Common.{◌≡◌, ℕ, zero, suc, ◌+◌, ◌-◌, ◌≤◌, Bool, Some, None, Option, refl, sym, ap, ◌∙◌, arith}
use Rattle.std.specs.Option.{unwrap_or}
use Rattle.reducer.specs.declared.step.Step.{Step}
use Rattle.reducer.specs.Scan.{choose, scan, entered, no_step}
use Rattle.total.specs.declared.pair.Pair.{Pair}

pub scan_more : {A : Type 0} (order : A → A → Bool) (f : ℕ → Option (Pair A)) (i : ℕ) → 1 ≤ i → choose order (scan order f (i - 1)) i (f i) ≡ scan order f (i + 1 - 1)
scan_more order f zero h = absurd (omega arith)
scan_more order f (suc i) h =
    let before : suc i - 1 ≡ i = omega arith in
    let after : suc i + 1 - 1 ≡ suc i = omega arith in
    ap (λ n. choose order (scan order f n) (suc i) (f (suc i))) before ∙ sym (ap (scan order f) after)

pub entered_by : {A : Type 0} (start : A) (o : Option (Step A)) → unwrap_or o (no_step start) ≡ entered start o
entered_by start None = refl
entered_by start (Some s) = refl
