use Rattle.std.proofs.Common.{◌≡◌, ℕ, ◌<◌, [], length, Ok, Option, refl, ◌∙◌, subst, arith}
use Rattle.page.specs.Codes.{coded}
use Rattle.page.specs.Strokes.{stroke_of}
use Rattle.job.specs.Reads.{begun, Fewer}
use Rattle.job.specs.Whole.{left, from_within}
use Rattle.job.proofs.stroke.read_stroke.Goals as goal

pub returns : goal.returns
returns c =
    let w = c.args.walk.now in
    let v = c.step_between.new.walk in
    let n = c.in-Some.number in
    let B : Option ℕ → Type 0 = λ o. left w ≡ begun v.place v.rest.now (Ok o) in
    let F : Option ℕ → Type 0 = λ o. Fewer (length v.rest.now) (length w.rest.now) (Ok o) in
    let begins : left w ≡ from_within v n [] = subst B c.in-Some.is c.in_ok-number.ensures.reads in
    let fewer : length v.rest.now < length w.rest.now = subst F c.in-Some.is c.in_ok-number.ensures.falls in
    let h = c.in_ok-order.ensures.reads [] c.new-open.ensures in
    record {
      reads = record { stroke = stroke_of n h.0 (coded c.in_ok-order.order); held = record { number = refl; points = h.1.0; order = refl }; is = begins ∙ h.1.1 n };
      part = c.in_ok-order.ensures.part;
      falls = omega (arith, fewer, c.in_ok-order.ensures.falls);
    }
