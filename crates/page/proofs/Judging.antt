-- What is read of a page is right.
use Rattle.std.proofs.Common.{◌≡◌, ℕ, zero, suc, ◌+◌, ◌^◌, ◌<◌, ◌≤◌, Bool, true, false, cond, List, [], ◌∷◌, ◌++◌, length, Ok, Err, Result, sym, refl, ap, ◌∙◌, subst, inl, append_assoc, append-nil, arith, length-append}
use Rattle.std.specs.List.{flat_map, AllByRecursion}
use Rattle.std.proofs.lemmas.List.{take_at, drop_at, flat_map_more}
use Rattle.std.proofs.ByRecursion.{All-push}
use Rattle.refusal.specs.declared.Told.{Told}
use Rattle.page.specs.declared.fault.PageCause.{PageCause}
use Rattle.page.specs.declared.fault.PageCause.TheVariants.{OutOfPlace, WrongCode}
use Rattle.tray.specs.declared.point.Mark.{Mark}
use Rattle.tray.specs.declared.point.Mark.TheVariants.{Plain, Corner}
use Rattle.page.specs.declared.kinds.Point.{Point}
use Rattle.page.specs.declared.kinds.Order.{Order}
use Rattle.page.specs.declared.kinds.Part.TheVariants.{Outside, Inside}
use Rattle.page.specs.declared.kinds.Step.{Step}
use Rattle.page.specs.declared.kinds.Step.TheVariants.{Finish}
use Rattle.page.specs.Little.{le, unle}
use Rattle.page.specs.Faults.{told_at}
use Rattle.page.specs.Records.{Rec, start_rec, plain_rec, corner_rec, order_rec, size_of, payload, frame, Front, bad, one, front}
use Rattle.page.specs.Strokes.{Stroke, stroke_of, start_bytes, point_bytes, order_bytes, stroke_bytes, page_bytes, point_of, order_of, codes}
use Rattle.page.specs.Codes.{known_order}
use Rattle.page.specs.Fits.{Byte, PointFits, StrokeFits}
use Rattle.page.specs.Steps.{State, outside, inside, part_of, Reading, refused_by, meant, passes, stepped, at_front, read_on, read_from, reading}
use Rattle.page.specs.Causes.{Stops, open_bytes, OpenFits, RefusedFirst, Verdict, Judged}
use Rattle.page.specs.Laws.{AcceptedStays}
use Rattle.page.proofs.Coding.{coded_known}
use Rattle.page.proofs.Framing.{front_one, front_split, front_sound}
use Rattle.page.proofs.Refusing.{front_bad, firstly}
use Rattle.page.proofs.Bytes.{le_unle_at}
use Rattle.page.proofs.Stepping.{read_step}
use Rattle.page.proofs.Returning.{behind}
use Rattle.page.proofs.Causing.{Judge, judge}
use Rattle.page.proofs.Payloads.{small, point, order}

abbrev Right : List ℕ → Reading → Type 0
Right bs r = Verdict bs r.strokes r.ending

-- what stands before a place: whole strokes and an open one
record Before (pre : List ℕ) (ss : List Stroke) (s : State) : Type 0 where
  pub bytes : pre ≡ page_bytes ss ++ open_bytes s
  pub strokes : AllByRecursion StrokeFits ss
  pub opened : OpenFits s

-- a page is refused at the place behind `pre`
stop : (pre left : List ℕ) (ss : List Stroke) (s : State) (c : PageCause) (t : Told) → Before pre ss s → t ≡ told_at c (length pre) → Stops c (part_of s) left → Right (pre ++ left) (behind ss (record { strokes = []; ending = refused_by t }))
stop pre left ss s c t b e h =
    subst (λ l. RefusedFirst (pre ++ left) l t) (sym (append-nil ss))
    (record {
      cause = c;
      place = length pre;
      state = s;
      told = e;
      within = omega (arith, length-append pre left);
      before = take_at pre left (length pre) refl ∙ b.bytes;
      strokes_fit = b.strokes;
      open_fits = b.opened;
      stops = subst (Stops c (part_of s)) (sym (drop_at pre left (length pre) refl)) h;
    })

-- THE END OF THE PAGE

at_end : (pre : List ℕ) (ss : List Stroke) (s : State) → Before pre ss s → Right (pre ++ []) (behind ss (read_on s read_from (stepped (length pre) (part_of s) [])))
at_end pre ss outside b =
    (append-nil pre ∙ b.bytes ∙ append-nil (page_bytes ss) ∙ ap page_bytes (sym (append-nil ss)), subst (AllByRecursion StrokeFits) (sym (append-nil ss)) b.strokes)
at_end pre ss (inside n ps) b =
    stop pre [] ss (inside n ps) OutOfPlace (told_at OutOfPlace (length pre)) b refl
    (record { holds = inl refl; first = firstly OutOfPlace Inside [] (omega arith) (λ _ h. omega (arith, h.0)) (λ _ h. omega (arith, h.0)) (λ _ h. omega (arith, h.0)) (λ l h. omega arith) })

-- ONE RECORD MORE

-- what is still to be shown, of fewer bytes
abbrev Still : ℕ → Type 0
Still turns = (pre : List ℕ) (ss : List Stroke) (s : State) (left : List ℕ) → length left < turns → Before pre ss s → AllByRecursion Byte left → Right (pre ++ left) (behind ss (read_from (length pre) s left))

module _ (turns : ℕ) (still : Still turns) (pre bs : List ℕ) (few : length bs ≤ turns) (h : AllByRecursion Byte bs) (r : Rec) (left : List ℕ) (e : front bs ≡ one r left) where
  onwards : (ss : List Stroke) (s : State) → Before (pre ++ frame r) ss s → Right (pre ++ bs) (behind ss (read_from (length pre + (4 + size_of r)) s left))
  onwards ss s b =
      let f = front_one bs r left e in
      let n = length-append pre (frame r) in
      let at : length (pre ++ frame r) ≡ length pre + (4 + size_of r) = omega arith in
      let whole : (pre ++ frame r) ++ left ≡ pre ++ bs = append_assoc pre (frame r) left ∙ ap (λ l. pre ++ l) (sym (front_split bs r left h e)) in
      let v = still (pre ++ frame r) ss s left (omega arith) b (front_sound bs r left h e).rest in
      subst (λ m. Right (pre ++ bs) (behind ss (read_from m s left))) at (subst (λ l. Right l (behind ss (read_from (length (pre ++ frame r)) s left))) whole v)

more_points : (pre : List ℕ) (ss : List Stroke) (n : ℕ) (ps : List Point) (q : Point) (r : Rec) → Before pre ss (inside n ps) → PointFits q → point_bytes q ≡ frame r → Before (pre ++ frame r) ss (inside n (ps ++ q ∷ []))
more_points pre ss n ps q r b f e =
    record {
      bytes = (λ i. b.bytes i ++ sym e i)
          ∙ append_assoc (page_bytes ss) (open_bytes (inside n ps)) (point_bytes q)
          ∙ ap (λ l. page_bytes ss ++ l) (append_assoc (start_bytes n) (flat_map point_bytes ps) (point_bytes q) ∙ ap (λ l. start_bytes n ++ l) (flat_map_more point_bytes [] ps q));
      strokes = b.strokes;
      opened = (b.opened.0, All-push PointFits ps q b.opened.1 f);
    }

new_stroke : (pre : List ℕ) (ss : List Stroke) (p : List ℕ) → Before pre ss outside → unle p < 256 ^ 4 → le 4 (unle p) ≡ p → Before (pre ++ frame (start_rec p)) ss (inside (unle p) [])
new_stroke pre ss p b f e =
    record {
      bytes = (λ i. (b.bytes ∙ append-nil (page_bytes ss)) i ++ frame (start_rec (sym e i))) ∙ ap (λ l. page_bytes ss ++ l) (sym (append-nil (start_bytes (unle p))));
      strokes = b.strokes;
      opened = (f, tt);
    }

close_stroke : (pre : List ℕ) (ss : List Stroke) (n : ℕ) (ps : List Point) (p : List ℕ) → Before pre ss (inside n ps) → length p ≡ 14 → AllByRecursion Byte p → codes (order_of p) ≡ true → Before (pre ++ frame (order_rec p)) (ss ++ stroke_of n ps (order_of p) ∷ []) outside
close_stroke pre ss n ps p b size h ok =
    let o = order p size h in
    let s : Stroke = stroke_of n ps (order_of p) in
    let a : List ℕ = start_bytes n in
    let m : List ℕ = flat_map point_bytes ps in
    record {
      bytes = (λ i. b.bytes i ++ frame (order_rec (sym o.again i)))
          ∙ append_assoc (page_bytes ss) (a ++ m) (order_bytes (order_of p))
          ∙ ap (λ l. page_bytes ss ++ l) (append_assoc a m (order_bytes (order_of p)))
          ∙ flat_map_more stroke_bytes [] ss s
          ∙ sym (append-nil (page_bytes (ss ++ s ∷ [])));
      strokes = All-push StrokeFits ss s b.strokes (record { number = b.opened.0; points = b.opened.1; span = o.span; tolerance = o.tolerance; codes = ok });
      opened = tt;
    }

module _ (turns : ℕ) (still : Still turns) (pre bs : List ℕ) (few : length bs ≤ turns) (h : AllByRecursion Byte bs) (ss : List Stroke) where
  -- what is right after the record r, which says something or is refused
  abbrev After : State → Rec → List ℕ → Result Step Told → Type 0
  After s r left a = Right (pre ++ bs) (behind ss (read_on s read_from (passes (length pre) (part_of s) bs r left a)))

  -- a record that is refused where it stands
  ill : (s : State) (t : Told) → Before pre ss s → Judge (length pre) (part_of s) bs (Err t) → Right (pre ++ bs) (behind ss (record { strokes = []; ending = refused_by t }))
  ill s t b j = stop pre bs ss s j.0 t b j.1.0 j.1.1

  more : (m : Mark) (n : ℕ) (ps : List Point) (r : Rec) (left : List ℕ) → front bs ≡ one r left → frame r ≡ point_bytes (point_of m (payload r)) → PointFits (point_of m (payload r)) → Before pre ss (inside n ps) → Right (pre ++ bs) (behind ss (read_from (length pre + (4 + size_of r)) (inside n (ps ++ point_of m (payload r) ∷ [])) left))
  more m n ps r left e same f b = onwards turns still pre bs few h r left e ss (inside n (ps ++ point_of m (payload r) ∷ [])) (more_points pre ss n ps (point_of m (payload r)) r b f (sym same))

  one_more : (s : State) (r : Rec) (left : List ℕ) → front bs ≡ one r left → Before pre ss s → After s r left (meant (length pre) (part_of s) r)
  one_more outside (start_rec p) left e b =
      let f = front_one bs _ left e in
      let v = (front_sound bs _ left h e).bytes in
      onwards turns still pre bs few h (start_rec p) left e ss (inside (unle p) []) (new_stroke pre ss p b (small 4 p f.size v) (le_unle_at 4 p f.size v))
  one_more outside (plain_rec p) left e b = ill outside _ b (judge (length pre) Outside bs _ left e)
  one_more outside (corner_rec p) left e b = ill outside _ b (judge (length pre) Outside bs _ left e)
  one_more outside (order_rec p) left e b = ill outside _ b (judge (length pre) Outside bs _ left e)
  one_more (inside n ps) (start_rec p) left e b = ill (inside n ps) _ b (judge (length pre) Inside bs _ left e)
  one_more (inside n ps) (plain_rec p) left e b =
      let q = point Plain p (front_one bs _ left e).size (front_sound bs _ left h e).bytes in
      more Plain n ps (plain_rec p) left e (ap (λ l. frame (plain_rec l)) (sym q.again)) q.fits b
  one_more (inside n ps) (corner_rec p) left e b =
      let q = point Corner p (front_one bs _ left e).size (front_sound bs _ left h e).bytes in
      more Corner n ps (corner_rec p) left e (ap (λ l. frame (corner_rec l)) (sym q.again)) q.fits b
  one_more (inside n ps) (order_rec p) left e b =
      let o : Order = order_of p in
      let j = judge (length pre) Inside bs (order_rec p) left e in
      closing (codes o) refl j
    where
      closing : (c : Bool) → codes (order_of p) ≡ c → Judge (length pre) Inside bs (cond c (Ok (Finish (known_order (order_of p)))) (Err (told_at WrongCode (length pre)))) → After (inside n ps) (order_rec p) left (cond c (Ok (Finish (known_order (order_of p)))) (Err (told_at WrongCode (length pre))))
      closing true ok j =
          let s : Stroke = stroke_of n ps (order_of p) in
          let v = onwards turns still pre bs few h (order_rec p) left e (ss ++ s ∷ []) outside (close_stroke pre ss n ps p b (front_one bs _ left e).size (front_sound bs _ left h e).bytes ok) in
          let r : Reading = read_from (length pre + 18) outside left in
          subst (λ l. Verdict (pre ++ bs) l r.ending) (append_assoc ss (s ∷ []) r.strokes ∙ ap (λ o. ss ++ stroke_of n ps o ∷ r.strokes) (sym (coded_known (order_of p) ok))) v
      closing false ok j = ill (inside n ps) _ b j

-- EVERY PAGE

right : (turns : ℕ) → Still turns
right zero pre ss s left few b h = absurd (omega arith)
right (suc turns) pre ss s [] few b h = subst (λ r. Right (pre ++ []) (behind ss r)) (sym (read_step (length pre) s [])) (at_end pre ss s b)
right (suc turns) pre ss s (x ∷ xs) few b h = subst (λ r. Right (pre ++ x ∷ xs) (behind ss r)) (sym (read_step (length pre) s (x ∷ xs))) (go (right turns) (front (x ∷ xs)) refl)
  where
    go : Still turns → (f : Front) → front (x ∷ xs) ≡ f → Right (pre ++ x ∷ xs) (behind ss (read_on s read_from (at_front (length pre) (part_of s) (x ∷ xs) f)))
    go still (bad c) e = stop pre (x ∷ xs) ss s c (told_at c (length pre)) b refl (front_bad (part_of s) x xs c e)
    go still (one r left) e = one_more turns still pre (x ∷ xs) (omega arith) h ss s r left e b

pub judged : (bs : List ℕ) → AllByRecursion Byte bs → Judged bs
judged bs h = right (suc (length bs)) [] [] outside bs (omega arith) (record { bytes = refl; strokes = tt; opened = tt }) h

pub accepted_stays : (bs : List ℕ) → AllByRecursion Byte bs → AcceptedStays bs
accepted_stays bs h e = sym (subst (Verdict bs (reading bs).strokes) e (judged bs h)).0
