-- What holds of every page holds of this one, since its elements are bytes.
use Rattle.std.proofs.Common.{ℕ, List}
use Rattle.std.specs.List.{AllByRecursion}
use Rattle.std.proofs.ByRecursion.{All-from_get_or}
use Rattle.page.specs.Fits.{Byte}
use Rattle.page.proofs.Judging.{judged, accepted_stays}
use Rattle.page.proofs.Deciding.{alone}
use Rattle.page.proofs.walk.Walk.new.Goals as goal

pub returns : goal.returns
returns c =
    let bs : List ℕ = c.args.page.now in
    let h : AllByRecursion Byte bs = All-from_get_or Byte bs 0 (λ i _. (c.type_inv.page i).fits) in
    record { rest = c.standing.ensures.rest; place = c.standing.ensures.place; part = c.standing.ensures.part; judged = judged bs h; alone = alone bs; again = accepted_stays bs h }
