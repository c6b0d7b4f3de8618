-- What was read is enough of the input.
use Rattle.std.proofs.Common.{◌≡◌, ℕ, ◌+◌, List, arith, length, take, ap, ◌∙◌, subst}
use Rattle.std.specs.Io.KnownBytes.{Appends}
use Rattle.refusal.specs.Texts.{refusal_text}
use Rattle.lines.specs.Output.{with_feed, longest, page_text}
use Rattle.reduce.proofs.Enough.{front_of, long_text, read_enough, short_text}
use Rattle.reduce.proofs.print_input.Goals as goal

pub returns-then-len-gt-LONGEST : goal.returns-then-len-gt-LONGEST
returns-then-len-gt-LONGEST g c =
    let len = c.in_ok-len.len in
    let buf = c.fill.new.buf in
    let within = c.in_ok-len.ensures.fits in
    let room : length buf ≡ longest + 1 = c.fill.ensures.size ∙ c.deref_mut.ensures.len ∙ c.in_ok-page.ensures.len in
    let wrote = subst (λ (v : List ℕ). Appends (g.W.Write.contents c.args.out) (g.W.Write.contents c.in_ok-write_refusal.field-0) v)
    (ap (λ t. with_feed (refusal_text t)) c.too_long.ensures ∙ long_text buf len room within c.if-len-gt-LONGEST.true) c.in_ok-write_refusal.ensures in
    read_enough buf len room within _ _ _ _ c.in_ok-len.ensures.bytes c.in_ok-len.ensures.end wrote

pub returns : goal.returns
returns g c =
    let len = c.in_ok-len.len in
    let buf = c.fill.new.buf in
    let within = c.in_ok-len.ensures.fits in
    let room : length buf ≡ longest + 1 = c.fill.ensures.size ∙ c.deref_mut.ensures.len ∙ c.in_ok-page.ensures.len in
    let lent = ap (take len) c.deref.ensures.value ∙ front_of len c.in_ok-page.page.len buf _ (omega (arith, within, c.in_ok-page.ensures.len)) within in
    let wrote = subst (λ (v : List ℕ). Appends (g.W.Write.contents c.args.out) (g.W.Write.contents c.in_ok-write_page.field-0) v)
    (ap page_text lent ∙ short_text buf len room within c.if-len-gt-LONGEST.false) c.in_ok-write_page.ensures in
    read_enough buf len room within _ _ _ _ c.in_ok-len.ensures.bytes c.in_ok-len.ensures.end wrote
