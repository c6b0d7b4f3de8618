-- An open stroke with one point more.
use Rattle.std.proofs.Common.{◌≡◌, true, false, List, [], ◌∷◌, ◌++◌, map, is_ok, Ok, Err, Result, OnOk, sym, refl, ap, ◌∙◌}
use Rattle.std.proofs.lemmas.Bool.{both_ways}
use Rattle.std.proofs.lemmas.List.{map_push}
use Rattle.tray.specs.declared.point.Point.{Point}
use Rattle.tray.specs.declared.causes.Refusal.{Refusal}
use Rattle.tray.specs.Trays.{writing}
use Rattle.page.specs.declared.kinds.Point.{Point as Dot}
use Rattle.job.specs.declared.open.OpenStroke.{OpenStroke}
use Rattle.job.specs.Answer.{drawing, drawn_with, point_of}
use Rattle.job.specs.Open.{put_or, standing, Holds}
use Rattle.job.specs.Marking.{cornered_by}
use Rattle.job.proofs.Puts.{drawing_more, drawn_plain}
use Rattle.job.proofs.Markings.{all_marks}

-- where a put was refused, one point more changes nothing
still : (r : Result (Unit {0}) Refusal) (qs : List Point) (p : Dot) → is_ok r ≡ false → drawn_with (put_or r qs) p ≡ put_or r qs
still (Ok u) qs p e = absurd (both_ways true e refl)
still (Err x) qs p e = refl

no_mark : (P : Type 0) (r : Result (Unit {0}) Refusal) → is_ok r ≡ false → OnOk r P
no_mark P (Ok u) e = absurd (both_ways true e refl)
no_mark P (Err x) e = tt

drawn_ok : (r : Result (Unit {0}) Refusal) (qs : List Point) → is_ok r ≡ true → put_or r qs ≡ Ok qs
drawn_ok (Ok u) qs e = refl
drawn_ok (Err x) qs e = absurd (both_ways false refl e)

of_ok : (P : Type 0) (r : Result (Unit {0}) Refusal) → is_ok r ≡ true → OnOk r P → P
of_ok P (Ok u) e h = h
of_ok P (Err x) e h = absurd (both_ways false refl e)

map_ok : (P Q : Type 0) (r : Result (Unit {0}) Refusal) → (P → Q) → OnOk r P → OnOk r Q
map_ok P Q (Ok u) f h = f h
map_ok P Q (Err x) f h = tt

pub holds_more : (o o' : OpenStroke) (p : Dot) → is_ok o.drawn ≡ true →
    standing o' ≡ drawn_with (Ok (writing o.tray).points) p → OnOk o'.drawn (o'.marks.items ≡ o.marks.items ++ p.mark ∷ []) →
    (ps : List Dot) → Holds o ps → Holds o' (ps ++ p ∷ [])
holds_more o o' p e puts notes ps h =
    let drawn : drawing ps ≡ Ok (writing o.tray).points = sym h.stands ∙ drawn_ok o.drawn (writing o.tray).points e in
    let old = of_ok _ o.drawn e h.marked in
    record {
      stands = puts ∙ ap (λ d. drawn_with d p) (sym drawn) ∙ sym (drawing_more ps p);
      marked = map_ok _ _ o'.drawn (λ n. n ∙ ap (λ v. v ++ p.mark ∷ []) old ∙ sym (map_push (λ d. d.mark) ps p)) notes;
    }

pub holds_read : (o : OpenStroke) (p : Dot) → is_ok o.drawn ≡ false → (ps : List Dot) → Holds o ps → Holds o (ps ++ p ∷ [])
holds_read o p e ps h = record {
  stands = sym (still o.drawn (writing o.tray).points p e) ∙ ap (λ d. drawn_with d p) h.stands ∙ sym (drawing_more ps p);
  marked = no_mark _ o.drawn e;
}

-- lifted and marked, an open stroke that no put refused has the points that were read
pub record Finished (o : OpenStroke) (ps : List Dot) (qs : List Point) : Type 0 where
  pub drawn : drawing ps ≡ Ok (writing o.tray).points
  pub points : qs ≡ map point_of ps

pub finished : (o : OpenStroke) (ps : List Dot) (qs : List Point) → is_ok o.drawn ≡ true → Holds o ps → qs ≡ cornered_by o.marks.items (writing o.tray).points → Finished o ps qs
finished o ps qs e h f =
    let drawn : drawing ps ≡ Ok (writing o.tray).points = sym h.stands ∙ drawn_ok o.drawn (writing o.tray).points e in
    let plain = drawn_plain ps (writing o.tray).points drawn in
    let marks = of_ok _ o.drawn e h.marked in
    record {
      drawn = drawn;
      points = f ∙ ap (λ ms. cornered_by ms (writing o.tray).points) marks ∙ ap (cornered_by (map (λ p. p.mark) ps)) plain ∙ all_marks ps;
    }
