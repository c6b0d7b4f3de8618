-- A call of the reducer, as a history records it.
--   total_of     the start joined with the values of the errors, in their order
--   reply        what the call told, with what its list held then
--   reduction    what it asked, what it was lent, and its reply
use Rattle.std.specs.Prelude.{ℕ, min, Bool, ◌&&◌, List, length, take, Ok, Err, Result}
use mathlib.Core.List.{foldl}
use Rattle.tray.specs.declared.causes.Refusal.{Refusal}
use Rattle.tray.specs.Refusals.{told}
use Rattle.tray.specs.Reductions.{Meaning, Reply, answered, refused, Reduction}
use Rattle.total.specs.declared.total.Total.{Ghosts}
use Rattle.reducer.specs.declared.answer.Answer.{Answer}
use Rattle.reducer.specs.Lent.{Lent}

module _ {A : Type 0} (g : Ghosts A) where
  abbrev pub total_of : List ℕ → A
  total_of es = foldl (λ t e. g.join t (g.value e)) g.start es

  -- equal totals are those that stand both ways
  abbrev pub same_total : A → A → Bool
  same_total t u = g.order t u && g.order u t

  abbrev pub reply : List ℕ → Result (Answer A) Refusal → Reply
  reply list (Ok x) = answered (take x.count list) x.count (λ es. same_total x.total (total_of es))
  reply list (Err e) = refused (told e)

  abbrev pub reduction : Meaning → ℕ → Lent A → Lent A → Result (Answer A) Refusal → Reduction
  reduction m tolerance b a x = record {
    meaning = m;
    order = λ es fs. g.order (total_of es) (total_of fs);
    tolerance = tolerance;
    table = min (length b.counts) (min (length b.preds) (length b.totals));
    room = length b.list;
    reply = reply a.list x;
  }
