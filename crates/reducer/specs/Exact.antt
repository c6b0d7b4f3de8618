-- What a reduce tells to the letter, beside being right, so that it has one reply to give.
--   RefusedBy         a refusal by the tray, with this number and this place
--   FirstChecks       a bare tray, then a wide tolerance, then a short table
--   FitsIfAnswered    an answer has no more points than the list has room for
--   SaysShortList     the list is shorter than the kept chain, and the refusal tells how many points that has
--   Exact             the reply is told to the letter
--   BarsOthers        the measure bars what is no chord of the stroke
--   replying          the same reduce with another reply
--   SameReply         the same numbers and count, or the same refusal
--   OneReply          two replies to one reduce that are right and exact are the same; the total is in both that of the kept chain
--   EachExact         each reduce of a history is exact about the stroke that the calls before it made
--   ExactGoesOn       one call more keeps that
--   ExactStepsGoOn    so does each call of a tray that is no reduce, by the machine's step
use Rattle.std.specs.Prelude.{◌≡◌, ℕ, ◌<◌, ◌≤◌, ◌⊎◌, List, [], length, Some}
use Rattle.refusal.specs.declared.Layer.TheVariants.{Tray}
use Rattle.refusal.specs.Said.{at_layer}
use Rattle.tray.specs.declared.point.Point.{Point}
use Rattle.tray.specs.Reductions.{Reduction, Reply, answered, refused}
use Rattle.tray.specs.History.{State, Call, History, ◌▸◌, step}
use Rattle.tray.specs.Drawn.{Drawn, Permits}
use Rattle.total.specs.Laws.{limit}
use Rattle.reducer.specs.Law.{Searched, Chainless, IsAnswered, SaysNoWay, ShortList, Right}
use Rattle.reducer.specs.Runs.{Met, NoReduce}

abbrev pub RefusedBy : ℕ → ℕ → Reply → Type 0
RefusedBy number place (answered ks count has_total) = ⊥
RefusedBy number place (refused t) = t ≡ at_layer Tray number place

module _ (stroke : List Point) (r : Reduction) where
  pub record FirstChecks : Type 0 where
    pub bare : length stroke ≡ 0 → RefusedBy 5 0 r.reply
    pub wide : 1 ≤ length stroke → limit < r.tolerance → RefusedBy 7 0 r.reply
    pub short : 1 ≤ length stroke → r.tolerance ≤ limit → r.table < length stroke → RefusedBy 8 (length stroke) r.reply

  abbrev pub FitsIfAnswered : Reply → Type 0
  FitsIfAnswered (answered ks count has_total) = count ≤ r.room
  FitsIfAnswered (refused t) = Unit {0}

  abbrev pub SaysShortList : Reply → Type 0
  SaysShortList y = (s : ShortList stroke r) × RefusedBy 10 (length s.0) y

  pub record Exact : Type 0 where
    pub first_checks : FirstChecks
    pub fits : FitsIfAnswered r.reply
    -- "no way" is never said where there is a lawful chain, whatever was asked, and where it is said it has its place
    pub truly_none : SaysNoWay stroke r r.reply → Chainless stroke r
    pub none_told : Searched stroke r → Chainless stroke r → RefusedBy 9 (length stroke) r.reply
    -- else an answer, unless the list is short
    pub otherwise : Searched stroke r → (Chainless stroke r → ⊥) → IsAnswered stroke r r.reply ⊎ SaysShortList r.reply

abbrev pub BarsOthers : List Point → Reduction → Type 0
BarsOthers stroke r = (i j e : ℕ) → r.meaning stroke i j ≡ Some e → (1 ≤ i) × (i < j) × (j ≤ length stroke)

abbrev pub replying : Reduction → Reply → Reduction
replying r y = record { meaning = r.meaning; order = r.order; tolerance = r.tolerance; table = r.table; room = r.room; reply = y }

abbrev pub SameReply : Reply → Reply → Type 0
SameReply (answered ks m t) (answered ls n u) = (ks ≡ ls) × (m ≡ n)
SameReply (answered ks m t) (refused u) = ⊥
SameReply (refused t) (answered ls n u) = ⊥
SameReply (refused t) (refused u) = t ≡ u

abbrev pub OneReply : Type 0
OneReply = (stroke : List Point) (r : Reduction) → BarsOthers stroke r → (x y : Reply) →
    Right stroke (replying r x) → Exact stroke (replying r x) → Right stroke (replying r y) → Exact stroke (replying r y) → SameReply x y

abbrev pub EachExact : History → Type 0
EachExact h = (stroke : List Point) (r : Reduction) → Met h stroke r → Exact stroke r

abbrev pub ExactGoesOn : State → Call → State → Type 0
ExactGoesOn s c s' = (h : History) → Drawn h s.pen s.points → EachExact h → EachExact (h ▸ c)

pub record ExactStepsGoOn : Type 0 where
  pub begins : EachExact []
  pub goes_on : (s : State) (c : Call) → NoReduce c → Permits s.pen c → ExactGoesOn s c (step s c)
