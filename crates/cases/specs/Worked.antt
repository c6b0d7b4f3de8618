-- Reduces of the hook, worked out.
--   cornered_hook    the hook with its point 4 a corner
--   start_of_hook    the first point of the hook alone
--   with_corners     the synchronous measure under Corners
--   with_span s      the synchronous measure under Span s
--   Shown            what a reduce says, and what its list holds then
--   reducing         this of a reduce by a kind of total, a measure and a tolerance, of a stroke; its tables and its list
--                    have one entry for each point, at first 0 or the start
--   keeping          these numbers of n points are kept, with their count and this total, and the list holds 0 after them
--   no_way           no lawful chain leads to the last of n points, and the list is as it was
--   WorkedCases      what reduces of the hook say and leave, and errors of chords
use Rattle.std.specs.Prelude.{◌≡◌, ℕ, ◌-◌, List, [], ◌∷◌, ◌++◌, length, take, replicate, Ok, Err, Result}
use Rattle.refusal.specs.declared.Told.{Told}
use Rattle.refusal.specs.declared.Layer.TheVariants.{Tray}
use Rattle.refusal.specs.Said.{at_layer}
use Rattle.tray.specs.declared.point.Point.{Point}
use Rattle.tray.specs.declared.point.Mark.TheVariants.{Corner}
use Rattle.tray.specs.Machine.{mark_after}
use Rattle.tray.specs.Reductions.{Meaning}
use Rattle.total.specs.declared.total.Total.{Ghosts}
use Rattle.total.specs.Kinds.{one_sum, one_worst, both_of}
use Rattle.total.specs.Whole.{sum_kind, worst_kind, both_kind}
use Rattle.measure.specs.Synchronous.{synchronous}
use Rattle.measure.specs.Layers.{barring, cornered, overlong}
use Rattle.measure.specs.Worked.{hook, WorkedChords}
use Rattle.reducer.specs.declared.answer.Answer.{Answer}
use Rattle.reducer.specs.Chains.{task}
use Rattle.reducer.specs.Lent.{lent}
use Rattle.reducer.specs.Reduced.{reduced}

abbrev pub cornered_hook : List Point
cornered_hook = mark_after Corner hook 4

abbrev pub start_of_hook : List Point
start_of_hook = take 1 hook

abbrev pub with_corners : Meaning
with_corners ps i j = barring (cornered ps i j) (synchronous ps i j)

abbrev pub with_span : ℕ → Meaning
with_span s ps i j = barring (overlong s ps i j) (synchronous ps i j)

abbrev pub Shown : Type 0 → Type 0
Shown A = Result (Answer A) Told × List ℕ

abbrev pub reducing : {A : Type 0} → Ghosts A → Meaning → ℕ → List Point → Shown A
reducing g m tolerance ps =
    let zeros = replicate (length ps) 0 in
    let d = reduced (task g (m ps) tolerance) (length ps) (lent zeros zeros (replicate (length ps) g.start) zeros) in
    (d.says, d.leaves.list)

abbrev pub keeping : {A : Type 0} → ℕ → List ℕ → A → Shown A
keeping n ks t = (Ok (record { count = length ks; total = t }), ks ++ replicate (n - length ks) 0)

abbrev pub no_way : {A : Type 0} → ℕ → Shown A
no_way n = (Err (at_layer Tray 9 n), replicate n 0)

pub record WorkedCases : Type 0 where
  pub chords : WorkedChords
  pub by_sum : reducing sum_kind synchronous 5 hook ≡ keeping 5 (1 ∷ 2 ∷ 5 ∷ []) (one_sum 5)
  pub by_worst : reducing worst_kind synchronous 5 hook ≡ keeping 5 (1 ∷ 3 ∷ 5 ∷ []) (one_worst 4)
  pub by_sum_then_worst : reducing both_kind synchronous 5 hook ≡ keeping 5 (1 ∷ 3 ∷ 5 ∷ []) (both_of 5 4)
  pub equal_error_allowed : reducing sum_kind synchronous 41 hook ≡ keeping 5 (1 ∷ 5 ∷ []) (one_sum 41)
  pub error_above_not_allowed : reducing sum_kind synchronous 40 hook ≡ keeping 5 (1 ∷ 2 ∷ 5 ∷ []) (one_sum 5)
  pub no_tolerance_keeps_all : reducing sum_kind synchronous 0 hook ≡ keeping 5 (1 ∷ 2 ∷ 3 ∷ 4 ∷ 5 ∷ []) (one_sum 0)
  pub corner_kept : reducing sum_kind with_corners 5 cornered_hook ≡ keeping 5 (1 ∷ 2 ∷ 4 ∷ 5 ∷ []) (one_sum 1)
  pub span_1_keeps_all : reducing sum_kind (with_span 1) 5 hook ≡ keeping 5 (1 ∷ 2 ∷ 3 ∷ 4 ∷ 5 ∷ []) (one_sum 0)
  pub span_0_bars_all : reducing sum_kind (with_span 0) 5 hook ≡ no_way 5
  pub one_point_under_span_0 : reducing sum_kind (with_span 0) 5 start_of_hook ≡ keeping 1 (1 ∷ []) (one_sum 0)
