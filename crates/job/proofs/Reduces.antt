-- What the job's reduce of a stroke answers, whatever the kind of total.
use Rattle.std.proofs.Common.{◌≡◌, ℕ, ◌+◌, ◌*◌, ◌<◌, ◌≤◌, List, length, take, Ok, Err, Result, ap, subst, arith}
use Rattle.tray.specs.declared.point.Point.{Point}
use Rattle.tray.specs.declared.causes.Refusal.{Refusal}
use Rattle.tray.specs.declared.causes.Refusal.TheVariants.{OffSheet, StoppedClock, LongStroke, FullTray, BareTray, NoSuchPoint, WideTolerance, ShortTable, NoWay, ShortList}
use Rattle.tray.specs.Refusals.{tells}
use Rattle.tray.specs.Reductions.{Meaning}
use Rattle.page.specs.declared.kinds.Totals.{Totals}
use Rattle.page.proofs.Kepts.{bytes_length}
use Rattle.total.specs.declared.total.Total.{Ghosts}
use Rattle.total.specs.Laws.{Laws, limit}
use Rattle.reducer.specs.declared.answer.Answer.{Answer as Reply}
use Rattle.reducer.specs.Chains.{Task, task}
use Rattle.reducer.specs.Lent.{Lent}
use Rattle.reducer.specs.Outcome.{Outcome}
use Rattle.reducer.specs.Reduced.{done, reduced}
use Rattle.reducer.proofs.Optimal.{Sound, chain_low}
use Rattle.reducer.proofs.Rights.{chain_points}
use Rattle.reducer.proofs.Computed.{Computed, computed}
use Rattle.job.specs.Answer.{Answer, kept, refused, own, replied, kept_by}
use Rattle.job.specs.Records.{answer_bytes}
use Rattle.job.proofs.Layereds.{Within}

-- neither the tables nor the list are short
abbrev pub Roomy : Answer → Type 0
Roomy (kept t ks) = Unit {0}
Roomy (refused t) = (t.number ≡ 8 → ⊥) × (t.number ≡ 10 → ⊥)

-- the record of the answer is no longer than those of a stroke of n points
abbrev pub Brief : ℕ → Answer → Type 0
Brief n a = (number : ℕ) → length (answer_bytes number a) ≤ 26 + 12 * n

module _ {A : Type 0} (g : Ghosts A) (laws : Laws g.start g.value g.join g.order) (figures : A → Totals) (m : Meaning) (within : Within m)
    (ps : List Point) (few : length ps ≤ 512) (tol : ℕ) where
  abbrev k : Task A
  k = task g (m ps) tol

  sound : tol ≤ limit → Sound k (length ps)
  sound h = record { laws = laws; few = few; within = within ps; tolerated = h }

  pub call : Computed k (length ps) (own g) (reduced k (length ps) (own g))
  call = computed k (length ps) sound (own g)

  abbrev pub said_by : Result (Reply A) Refusal → Lent A → Answer
  said_by x a = replied figures (done (tells x) a)

  pub said_by_call : said_by call.result call.left ≡ kept_by g figures m tol ps
  said_by_call = ap (replied figures) call.is

  brief : (x : Result (Reply A) Refusal) (a : Lent A) → Outcome k (length ps) (own g) a x → Brief (length ps) (said_by x a)
  brief (Ok x) a o number =
      let size = bytes_length number (figures x.total) (take x.count a.list) in
      let points = chain_points o.answered.lawful in
      let low = chain_low k (length ps) (sound o.searched.tolerated) o.answered.lawful in
      omega (arith, low.1)
  brief (Err e) a o number = omega arith

  roomy : (x : Result (Reply A) Refusal) (a : Lent A) → Outcome k (length ps) (own g) a x → Roomy (said_by x a)
  roomy (Ok x) a o = tt
  roomy (Err BareTray) a o = (λ e. omega arith, λ e. omega arith)
  roomy (Err WideTolerance) a o = (λ e. omega arith, λ e. omega arith)
  roomy (Err (ShortTable p)) a o = absurd (omega (arith, o.2))
  roomy (Err (NoWay p)) a o = (λ e. omega arith, λ e. omega arith)
  roomy (Err (ShortList p)) a o =
      let low = chain_low k (length ps) (sound o.searched.tolerated) o.answered.lawful in
      let c = o.answered.chords in
      let r : 512 < p = o.room in
      absurd (omega (arith, low.1))
  roomy (Err (OffSheet p)) a o = absurd o
  roomy (Err (StoppedClock p)) a o = absurd o
  roomy (Err (LongStroke p)) a o = absurd o
  roomy (Err FullTray) a o = absurd o
  roomy (Err (NoSuchPoint p)) a o = absurd o

  pub kept_brief : Brief (length ps) (kept_by g figures m tol ps)
  kept_brief = subst (Brief (length ps)) said_by_call (brief call.result call.left call.outcome)

  pub kept_roomy : Roomy (kept_by g figures m tol ps)
  kept_roomy = subst Roomy said_by_call (roomy call.result call.left call.outcome)
