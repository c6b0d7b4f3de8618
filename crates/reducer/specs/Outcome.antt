-- What a reduce says, and what it leaves in the tables and in the list: b is what was lent, a what it holds then.
--   Searched    the causes that are tested first do not hold, and the tables are filled
--   Lists       an answer: the list begins with the kept chain and is as it was after it
--   Lacks       the kept chain does not fit the list
--   Outcome     one of these, or the cause of the refusal
use Rattle.std.specs.Prelude.{◌≡◌, ℕ, ◌-◌, ◌<◌, ◌≤◌, List, length, take, drop, Ok, Err, Result}
use Rattle.tray.specs.declared.causes.Refusal.{Refusal}
use Rattle.tray.specs.declared.causes.Refusal.TheVariants.{OffSheet, StoppedClock, LongStroke, FullTray, BareTray, NoSuchPoint, WideTolerance, ShortTable, NoWay, ShortList}
use Rattle.total.specs.Laws.{limit}
use Rattle.reducer.specs.declared.answer.Answer.{Answer}
use Rattle.reducer.specs.Chains.{Task, Relaxed, Answered, Cut}
use Rattle.reducer.specs.Lent.{Lent, Room, Tight}

module _ {A : Type 0} (k : Task A) (n : ℕ) (b a : Lent A) where
  pub record Searched : Type 0 where
    pub some : 1 ≤ n
    pub tolerated : k.tolerance ≤ limit
    pub room : Room n b
    pub relaxed : Relaxed k n b.counts b.preds b.totals a.counts a.preds a.totals

  pub record Lists (count : ℕ) (t : A) : Type 0 where
    pub searched : Searched
    pub counted : 1 ≤ count
    pub room : count ≤ length b.list
    pub answered : Answered k n (count - 1) t (take count a.list)
    pub rest : drop count a.list ≡ drop count b.list

  pub record Lacks (needed : ℕ) : Type 0 where
    pub searched : Searched
    pub counted : 1 ≤ needed
    pub total : A
    pub points : List ℕ
    pub answered : Answered k n (needed - 1) total points
    pub room : length b.list < needed
    pub same : a.list ≡ b.list

  abbrev pub Outcome : Result (Answer A) Refusal → Type 0
  Outcome (Ok x) = Lists x.count x.total
  Outcome (Err BareTray) = (n ≡ 0) × (a ≡ b)
  Outcome (Err WideTolerance) = (1 ≤ n) × (limit < k.tolerance) × (a ≡ b)
  Outcome (Err (ShortTable p)) = (1 ≤ n) × (k.tolerance ≤ limit) × Tight n b × (p ≡ n) × (a ≡ b)
  Outcome (Err (NoWay p)) = Searched × Cut k n × (p ≡ n) × (a.list ≡ b.list)
  Outcome (Err (ShortList p)) = Lacks p
  Outcome (Err (OffSheet p)) = ⊥
  Outcome (Err (StoppedClock p)) = ⊥
  Outcome (Err (LongStroke p)) = ⊥
  Outcome (Err FullTray) = ⊥
  Outcome (Err (NoSuchPoint p)) = ⊥
