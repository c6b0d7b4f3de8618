use Rattle.std.proofs.Common.{◌≡◌, ℕ, true, false, ltb, List, ◌++◌, length, refl, sym, ap, ◌∙◌}
use Rattle.std.proofs.lemmas.Bool.{le-ltb, lt-ltb, cond-true, cond-false}
use Rattle.refusal.specs.Texts.{refusal_text}
use Rattle.lines.specs.Output.{with_feed, longest, page_text}
use Rattle.lines.proofs.output.program_text.Goals as goal

pub returns-then-input-gt-LONGEST-clause-text : goal.returns-then-input-gt-LONGEST-clause-text
returns-then-input-gt-LONGEST-clause-text c =
    let bs : List ℕ = c.args.input.now in
    let long : ltb longest (length bs) ≡ true = lt-ltb _ _ c.if-input-gt-LONGEST.true in
    c.in_ok-put.ensures _ refl ∙ (λ i. c.new-text.ensures.bytes i ++ with_feed (refusal_text (c.from.ensures i))) ∙ sym (cond-true _ _ _ long)

pub returns-clause-text : goal.returns-clause-text
returns-clause-text c =
    let bs : List ℕ = c.args.input.now in
    let short : ltb longest (length bs) ≡ false = le-ltb _ _ c.if-input-gt-LONGEST.false in
    c.in_ok-put_page.ensures ∙ ap (λ (v : List ℕ). v ++ page_text bs) c.new-text.ensures.bytes ∙ sym (cond-false _ _ _ short)
