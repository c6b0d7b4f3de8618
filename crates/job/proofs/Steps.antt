-- What a step of a walk tells, where its answer is known.
use Rattle.std.proofs.Common.{◌≡◌, ℕ, List, [], length, Ok, Result, subst}
use Rattle.refusal.specs.Said.{said}
use Rattle.page.specs.declared.fault.PageFault.{PageFault}
use Rattle.page.specs.declared.walk.Walk.{Walk}
use Rattle.page.specs.declared.kinds.Part.{Part}
use Rattle.page.specs.declared.kinds.Part.TheVariants.{Outside, Inside}
use Rattle.page.specs.declared.kinds.Step.{Step}
use Rattle.page.specs.declared.kinds.Point.{Point as Dot}
use Rattle.page.specs.Faults.{told}
use Rattle.page.specs.Steps.{outside, inside, state_of, read_on, read_from}
use Rattle.page.specs.Walks.{seen, Falls, Parts}
use Rattle.job.specs.Whole.{left, from_within}

pub ok_is : (r : Result Step PageFault) (s t : Step) → r ≡ Ok s → s ≡ t → r ≡ Ok t
ok_is r s t p q = cc

module _ (w w' : Walk) (r x : Result Step PageFault) (e : r ≡ x) where
  abbrev Reads : Part → Result Step PageFault → ℕ → List Dot → Type 0
  Reads q y n ps = read_from w.place (state_of q n ps) w.rest.now ≡ read_on (state_of q n ps) read_from (seen y w')

  pub reads_outside : ((n : ℕ) (ps : List Dot) → Reads w.part r n ps) → w.part ≡ Outside → left w ≡ read_on outside read_from (seen x w')
  reads_outside h p = subst (λ q. Reads q x 0 []) p (subst (λ y. Reads w.part y 0 []) e (h 0 []))

  pub reads_inside : ((n : ℕ) (ps : List Dot) → Reads w.part r n ps) → w.part ≡ Inside → (n : ℕ) (ps : List Dot) → from_within w n ps ≡ read_on (inside n ps) read_from (seen x w')
  reads_inside h p n ps = subst (λ q. Reads q x n ps) p (subst (λ y. Reads w.part y n ps) e (h n ps))

  pub parts_known : Parts w.part w'.part (said told r) → Parts w.part w'.part (said told x)
  parts_known h = subst (λ y. Parts w.part w'.part (said told y)) e h

  pub falls_known : Falls (length w'.rest.now) (length w.rest.now) (said told r) → Falls (length w'.rest.now) (length w.rest.now) (said told x)
  falls_known h = subst (λ y. Falls (length w'.rest.now) (length w.rest.now) (said told y)) e h
