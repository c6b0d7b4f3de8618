-- Strokes that were written read back as themselves.
use Rattle.std.proofs.Common.{◌≡◌, ℕ, suc, ◌+◌, ◌*◌, ◌^◌, ◌<◌, true, List, [], ◌∷◌, ◌++◌, length, ℤ, Ok, sym, refl, ap, ◌∙◌, append_assoc, append-nil, arith, length-append, w16, SFits, to_z, of_z}
use mir.ValLaws.{of_z_fits}
use Rattle.std.specs.List.{flat_map, AllByRecursion}
use Rattle.std.proofs.lemmas.Bool.{cond-true}
use Rattle.std.proofs.lemmas.Int.{to_z-of_z}
use Rattle.tray.specs.declared.point.Mark.{Mark}
use Rattle.tray.specs.declared.point.Mark.TheVariants.{Plain, Corner}
use Rattle.page.specs.declared.kinds.Point.{Point}
use Rattle.page.specs.declared.kinds.Order.{Order}
use Rattle.page.specs.declared.kinds.Step.{Step}
use Rattle.page.specs.declared.kinds.Step.TheVariants.{Begin, Point as Next, Finish}
use Rattle.page.specs.Little.{le, unle}
use Rattle.page.specs.Records.{Rec, start_rec, plain_rec, corner_rec, order_rec, payload, size_of, record_bytes, frame}
use Rattle.page.specs.Strokes.{Stroke, start_bytes, mark_kind, point_payload, point_bytes, order_payload, order_bytes, stroke_bytes, page_bytes, point_of, order_of, codes}
use Rattle.page.specs.Codes.{known_order}
use Rattle.page.specs.Fits.{PointFits, StrokeFits}
use Rattle.page.specs.Steps.{meant, State, outside, inside, part_of, Reading, accepted, onward, read_on, read_from}
use Rattle.page.specs.Causes.{open_bytes, OpenFits}
use Rattle.page.proofs.Bytes.{unle_le}
use Rattle.page.proofs.Coding.{coded_known}
use Rattle.page.proofs.Framing.{front_frame}
use Rattle.page.proofs.Stepping.{read_step, step_one}
use Rattle.page.proofs.Putting.{joined_length, point_length}

-- the strokes ss, and then what a reading goes on with
abbrev pub behind : List Stroke → Reading → Reading
behind ss r = record { strokes = ss ++ r.strokes; ending = r.ending }

read_record : (place : ℕ) (s : State) (r : Rec) (rest : List ℕ) (x : Step) → length (payload r) ≡ size_of r → meant place (part_of s) r ≡ Ok x → read_from place s (frame r ++ rest) ≡ onward s (λ s'. read_from (place + (4 + size_of r)) s' rest) (Ok x)
read_record place s r rest x h m =
    read_step place s (frame r ++ rest) ∙ sym (ap (read_on s read_from) (step_one place (place + (4 + size_of r)) (part_of s) (frame r ++ rest) r rest x (front_frame rest r h) refl m))

read_start : (place n : ℕ) (rest : List ℕ) → n < 2 ^ 32 → read_from place outside (start_bytes n ++ rest) ≡ read_from (place + 8) (inside n []) rest
read_start place n rest h =
    read_record place outside (start_rec (le 4 n)) rest (Begin (unle (le 4 n))) refl refl ∙ ap (λ m. read_from (place + 8) (inside m []) rest) (unle_le 4 n h)

coord_back : (z : ℤ) → SFits w16 z → to_z w16 (unle (le 2 (of_z w16 z))) ≡ z
coord_back z f = ap (to_z w16) (unle_le 2 (of_z w16 z) (of_z_fits w16 z f).fits) ∙ to_z-of_z w16 z f

point_back : (p : Point) (m : Mark) → PointFits p → m ≡ p.mark → point_of m (point_payload p) ≡ p
point_back p m f e = λ i. record { x = coord_back p.x f.x i; y = coord_back p.y f.y i; t = unle_le 4 p.t f.t i; mark = e i }

read_point : (place n : ℕ) (ps : List Point) (p : Point) (rest : List ℕ) → PointFits p → read_from place (inside n ps) (point_bytes p ++ rest) ≡ read_from (place + 12) (inside n (ps ++ p ∷ [])) rest
read_point place n ps p rest f = go p.mark refl
  where
    go : (m : Mark) → m ≡ p.mark → read_from place (inside n ps) (record_bytes (mark_kind m) (point_payload p) ++ rest) ≡ read_from (place + 12) (inside n (ps ++ p ∷ [])) rest
    go Plain e = read_record place (inside n ps) (plain_rec (point_payload p)) rest (Next (point_of Plain (point_payload p))) refl refl ∙ ap (λ q. read_from (place + 12) (inside n (ps ++ q ∷ [])) rest) (point_back p Plain f e)
    go Corner e = read_record place (inside n ps) (corner_rec (point_payload p)) rest (Next (point_of Corner (point_payload p))) refl refl ∙ ap (λ q. read_from (place + 12) (inside n (ps ++ q ∷ [])) rest) (point_back p Corner f e)

read_points : (place n : ℕ) (acc ps : List Point) (rest : List ℕ) → AllByRecursion PointFits ps → read_from place (inside n acc) (flat_map point_bytes ps ++ rest) ≡ read_from (place + 12 * length ps) (inside n (acc ++ ps)) rest
read_points place n acc [] rest h =
    let z : place ≡ place + 0 = omega arith in
    λ i. read_from (z i) (inside n (sym (append-nil acc) i)) rest
read_points place n acc (p ∷ ps) rest h =
    let at : place + 12 + 12 * length ps ≡ place + 12 * suc (length ps) = omega arith in
    ap (read_from place (inside n acc)) (append_assoc (point_bytes p) (flat_map point_bytes ps) rest)
    ∙ read_point place n acc p (flat_map point_bytes ps ++ rest) h.0
    ∙ read_points (place + 12) n (acc ++ p ∷ []) ps rest h.1
    ∙ (λ i. read_from (at i) (inside n (append_assoc acc (p ∷ []) ps i)) rest)

order_back : (o : Order) → o.span < 2 ^ 32 → o.tolerance < 2 ^ 64 → order_of (order_payload o) ≡ o
order_back o p q =
    let m : o.measure + 0 * 256 ≡ o.measure = omega arith in
    let n : o.total + 0 * 256 ≡ o.total = omega arith in
    λ i. record { measure = m i; total = n i; span = unle_le 4 o.span p i; tolerance = unle_le 8 o.tolerance q i }

-- what is read on, behind the open stroke with this order
abbrev with_order : ℕ → List Point → Order → Reading → Reading
with_order n ps o r = behind (record { number = n; points = ps; order = o } ∷ []) r

read_order : (place n : ℕ) (ps : List Point) (o : Order) (rest : List ℕ) → codes o ≡ true → o.span < 2 ^ 32 → o.tolerance < 2 ^ 64 → read_from place (inside n ps) (order_bytes o ++ rest) ≡ with_order n ps o (read_from (place + 18) outside rest)
read_order place n ps o rest ok p q =
    let back = order_back o p q in
    read_record place (inside n ps) (order_rec (order_payload o)) rest (Finish (known_order (order_of (order_payload o)))) refl (cond-true _ _ _ (ap codes back ∙ ok))
    ∙ ap (λ x. with_order n ps x (read_from (place + 18) outside rest)) (coded_known (order_of (order_payload o)) (ap codes back ∙ ok) ∙ back)

-- an open stroke
pub read_open : (place : ℕ) (s : State) (rest : List ℕ) → OpenFits s → read_from place outside (open_bytes s ++ rest) ≡ read_from (place + length (open_bytes s)) s rest
read_open place outside rest f = let z : place ≡ place + 0 = omega arith in ap (λ m. read_from m outside rest) z
read_open place (inside n ps) rest f =
    let long = joined_length point_bytes 12 point_length ps in
    let at : place + 8 + 12 * length ps ≡ place + length (open_bytes (inside n ps)) = omega arith in
    ap (read_from place outside) (append_assoc (start_bytes n) (flat_map point_bytes ps) rest)
    ∙ read_start place n (flat_map point_bytes ps ++ rest) f.0
    ∙ read_points (place + 8) n [] ps rest f.1
    ∙ ap (λ m. read_from m (inside n ps) rest) at

-- a stroke is an open one, and then its order
read_stroke : (place : ℕ) (s : Stroke) (rest : List ℕ) → StrokeFits s → read_from place outside (stroke_bytes s ++ rest) ≡ behind (s ∷ []) (read_from (place + length (stroke_bytes s)) outside rest)
read_stroke place s rest f =
    let begun : List ℕ = open_bytes (inside s.number s.points) in
    let order : List ℕ = order_bytes s.order in
    let whole : stroke_bytes s ≡ begun ++ order = sym (append_assoc (start_bytes s.number) (flat_map point_bytes s.points) order) in
    let long = ap length whole ∙ length-append begun order in
    let at : place + length begun + 18 ≡ place + length (stroke_bytes s) = omega arith in
    ap (λ l. read_from place outside (l ++ rest)) whole
    ∙ ap (read_from place outside) (append_assoc begun order rest)
    ∙ read_open place (inside s.number s.points) (order ++ rest) (f.number, f.points)
    ∙ read_order (place + length begun) s.number s.points s.order rest f.codes f.span f.tolerance
    ∙ ap (λ m. behind (s ∷ []) (read_from m outside rest)) at

pub read_strokes : (place : ℕ) (ss : List Stroke) (rest : List ℕ) → AllByRecursion StrokeFits ss → read_from place outside (page_bytes ss ++ rest) ≡ behind ss (read_from (place + length (page_bytes ss)) outside rest)
read_strokes place [] rest h = let z : place ≡ place + 0 = omega arith in ap (λ m. read_from m outside rest) z
read_strokes place (s ∷ ss) rest h =
    let long = length-append (stroke_bytes s) (page_bytes ss) in
    let at : place + length (stroke_bytes s) + length (page_bytes ss) ≡ place + length (page_bytes (s ∷ ss)) = omega arith in
    ap (read_from place outside) (append_assoc (stroke_bytes s) (page_bytes ss) rest)
    ∙ read_stroke place s (page_bytes ss ++ rest) h.0
    ∙ ap (behind (s ∷ [])) (read_strokes (place + length (stroke_bytes s)) ss rest h.1)
    ∙ ap (λ m. behind (s ∷ ss) (read_from m outside rest)) at

pub read_nothing : (place : ℕ) → read_from place outside [] ≡ record { strokes = []; ending = accepted }
read_nothing place = read_step place outside []

pub written_reads_back : (ss : List Stroke) → AllByRecursion StrokeFits ss → read_from 0 outside (page_bytes ss) ≡ record { strokes = ss; ending = accepted }
written_reads_back ss h =
    ap (read_from 0 outside) (sym (append-nil (page_bytes ss)))
    ∙ read_strokes 0 ss [] h
    ∙ ap (behind ss) (read_nothing (0 + length (page_bytes ss)))
    ∙ ap (λ l. record { strokes = l; ending = accepted }) (append-nil ss)
