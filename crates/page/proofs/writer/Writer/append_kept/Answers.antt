-- Header, stroke number, totals and kept numbers stand one after another.
use Rattle.std.proofs.Common.{◌≡◌, ℕ, ◌+◌, ◌*◌, ◌≤◌, List, ◌++◌, length, take, Err, sym, refl, ap, ◌∙◌, arith}
use borrow.Author.Tests.{true-leb}
use Rattle.std.specs.List.{flat_map}
use Rattle.std.proofs.lemmas.Bool.{cond-true, cond-false}
use Rattle.std.proofs.lemmas.List.{take_all}
use Rattle.page.specs.declared.kinds.Totals.{Totals}
use Rattle.page.specs.Little.{le}
use Rattle.page.specs.Answers.{kept_payload, kept_bytes}
use Rattle.page.specs.Writes.{written}
use Rattle.page.specs.Appends.{outcome}
use Rattle.page.proofs.Putting.{put_after, joined_length, put_more, appends_short, appends_fits}
use Rattle.page.proofs.Bytes.{eight_low}
use Rattle.page.proofs.Kepts.{payload_length, bytes_length, kept_fits_where_short, kept_long}
use Rattle.page.proofs.writer.Writer.append_kept.Goals as goal
use Rattle.page.proofs.writer.Writer.append_kept.Goals.{then-count-gt-MOST_KEPT-via-then-count-gt-MOST_KEPT, then-count-gt-MOST_KEPT-via-else-count-gt-MOST_KEPT+then-not-has_room}

pub returns-then-count-gt-MOST_KEPT : goal.returns-then-count-gt-MOST_KEPT
returns-then-count-gt-MOST_KEPT c =
    let used : ℕ = c.args.self.now.used in
    let page : List ℕ = c.args.page.now in
    let ks : List ℕ = c.args.numbers.now in
    let n : ℕ = c.args.number in
    let t : Totals = c.args.totals in
    ap (λ f. outcome (Err f) used page) c.at.ensures
    ∙ elim c.then-count-gt-MOST_KEPT.branch [
      | then-count-gt-MOST_KEPT-via-then-count-gt-MOST_KEPT w ↦ sym (cond-false _ _ _ (kept_long n t ks w.if-count-gt-MOST_KEPT.true))
      | then-count-gt-MOST_KEPT-via-else-count-gt-MOST_KEPT+then-not-has_room w ↦ appends_short used _ page (kept_bytes n t ks) (bytes_length n t ks) w.if-not-has_room.ensures ∙ sym (cond-true _ _ _ (kept_fits_where_short n t ks w.if-count-gt-MOST_KEPT.false))
    ]

pub loop-k-preserved : goal.loop-k-preserved
loop-k-preserved c =
    let start : ℕ = c.args.self.now.used + 24 in
    let k : ℕ = c.loop-k.k in
    let room = true-leb _ _ c.if-not-has_room.ensures in
    let first : List ℕ = c.put-3.new.page in
    let enough : start + 2 * k + 2 ≤ length first = omega arith in
    c.put-in-loop-k.ensures ∙ put_more (le 2) 2 (λ _. refl) c.args.numbers.now k 0 start (start + 2 * k) c.loop-k.page first c.to_le_bytes-in-loop-k.result c.loop-k-test.true refl enough c.loop-k.invariant c.to_le_bytes-in-loop-k.ensures

pub returns : goal.returns
returns c =
    let used : ℕ = c.args.self.now.used in
    let page : List ℕ = c.args.page.now in
    let ks : List ℕ = c.args.numbers.now in
    let n : ℕ = c.args.number in
    let t : Totals = c.args.totals in
    let room = true-leb _ _ c.if-not-has_room.ensures in
    let long = payload_length n t ks in
    let j = joined_length (le 2) 2 (λ _. refl) ks in
    let all : take c.loop-k.k ks ≡ ks = take_all c.loop-k.k ks (omega (arith, c.loop-k-test.false)) in
    let a : List ℕ = le 2 (20 + 2 * length ks) ++ (le 2 5 ++ le 4 n) in
    let b : List ℕ = le 8 t.first in
    let d : List ℕ = le 8 t.second in
    let k : List ℕ = flat_map (le 2) ks in
    let one : c.put.new.page ≡ written used page a = c.put.ensures ∙ ap (written used page) c.kept_start.ensures in
    let two : c.put-2.new.page ≡ written used page (a ++ b) = put_after used (used + 8) page _ _ a b _ one c.put-2.ensures (c.to_le_bytes.ensures ∙ eight_low t.first) refl (omega arith) in
    let three : c.put-3.new.page ≡ written used page ((a ++ b) ++ d) = put_after used (used + 16) page _ _ (a ++ b) d _ two c.put-3.ensures (c.to_le_bytes-2.ensures ∙ eight_low t.second) refl (omega arith) in
    let four : c.loop-k.page ≡ written used page (((a ++ b) ++ d) ++ k) = put_after used (used + 24) page _ _ ((a ++ b) ++ d) k k three (c.loop-k.invariant ∙ ap (λ l. written (used + 24) c.put-3.new.page (flat_map (le 2) l)) all) refl refl (omega arith) in
    let bytes : c.loop-k.page ≡ written used page (kept_bytes n t ks) = four ∙ sym (ap (λ m. written used page (le 2 m ++ (le 2 5 ++ kept_payload n t ks))) long) in
    appends_fits used (24 + 2 * length ks) page (kept_bytes n t ks) (bytes_length n t ks) (used + 24 + 2 * length ks) c.loop-k.page c.if-not-has_room.ensures (omega arith) bytes ∙ sym (cond-true _ _ _ (kept_fits_where_short n t ks c.if-count-gt-MOST_KEPT.false))
