-- When a record is refused, cause by cause, and what is right to say of a page.
--   length_at, kind_at     the length and the kind that stand at the front of the bytes left
--   Long k n               payloads of kind k have n bytes
--   Code n                 a known code
--   Holds c part bs        the cause c holds at the front of the bytes left, between strokes or inside one
--   Stops c part bs        the cause c holds there, and none with a smaller number
--   open_bytes, OpenFits   the records of the open stroke so far, and that they fit
--   RefusedFirst           whole strokes and an open one stand before the place, and there the cause told stops the reading
--   Verdict bs ss e        what is right to say of the page bs: it is the bytes of the strokes ss, or is refused after them
--   Judged bs              the page bs is read as is right
--   Alone bs               nothing else is right to say of it
use Rattle.std.specs.Prelude.{◌≡◌, ℕ, ◌+◌, ◌^◌, ◌<◌, ◌≤◌, ◌⊎◌, List, [], ◌++◌, length, take, drop, ◌≢◌, slice_index}
use Rattle.std.specs.List.{flat_map, AllByRecursion}
use Rattle.refusal.specs.declared.Told.{Told}
use Rattle.page.specs.declared.fault.PageCause.{PageCause}
use Rattle.page.specs.declared.fault.PageCause.TheVariants.{CutRecord, StrangeKind, WrongLength, OutOfPlace, WrongCode, ShortPage}
use Rattle.page.specs.declared.kinds.Part.{Part}
use Rattle.page.specs.declared.kinds.Part.TheVariants.{Outside, Inside}
use Rattle.page.specs.Little.{unle}
use Rattle.page.specs.Faults.{number_of, told_at}
use Rattle.page.specs.Strokes.{Stroke, start_bytes, point_bytes, page_bytes}
use Rattle.page.specs.Fits.{PointFits, StrokeFits}
use Rattle.page.specs.Steps.{State, outside, inside, part_of, Ending, accepted, refused_by, reading}

abbrev pub length_at : List ℕ → ℕ
length_at bs = unle (take 2 bs)

abbrev pub kind_at : List ℕ → ℕ
kind_at bs = unle (take 2 (drop 2 bs))

abbrev pub Long : ℕ → ℕ → Type 0
Long k n = ((k ≡ 1) × (n ≡ 4)) ⊎ (((k ≡ 2) × (n ≡ 8)) ⊎ (((k ≡ 3) × (n ≡ 8)) ⊎ ((k ≡ 4) × (n ≡ 14))))

abbrev pub Code : ℕ → Type 0
Code n = (1 ≤ n) × (n ≤ 3)

abbrev pub Holds : PageCause → Part → List ℕ → Type 0
-- 1 to 3 bytes are left, or fewer after the kind than the length says
Holds CutRecord part bs = (0 < length bs) × ((length bs < 4) ⊎ (length bs < 4 + length_at bs))
-- the kind is none of 1 to 4
Holds StrangeKind part bs = (4 ≤ length bs) × ((kind_at bs < 1) ⊎ (4 < kind_at bs))
-- the length is not the kind's
Holds WrongLength part bs = (4 ≤ length bs) × (Long (kind_at bs) (length_at bs) → ⊥)
-- another record than a start between strokes
Holds OutOfPlace Outside bs = (4 ≤ length bs) × (kind_at bs ≢ 1)
-- the end of the page, or a start, inside a stroke
Holds OutOfPlace Inside bs = (length bs ≡ 0) ⊎ ((4 ≤ length bs) × (kind_at bs ≡ 1))
-- an order whose measure or total is no code
Holds WrongCode part bs = (6 ≤ length bs) × (kind_at bs ≡ 4) × ((Code (slice_index bs 4) → ⊥) ⊎ (Code (slice_index bs 5) → ⊥))
-- only writing is refused for want of room
Holds ShortPage part bs = ⊥

pub record Stops (c : PageCause) (part : Part) (bs : List ℕ) : Type 0 where
  pub holds : Holds c part bs
  pub first : (d : PageCause) → number_of d < number_of c → Holds d part bs → ⊥

abbrev pub open_bytes : State → List ℕ
open_bytes outside = []
open_bytes (inside n ps) = start_bytes n ++ flat_map point_bytes ps

abbrev pub OpenFits : State → Type 0
OpenFits outside = Unit {0}
OpenFits (inside n ps) = (n < 2 ^ 32) × AllByRecursion PointFits ps

pub record RefusedFirst (bs : List ℕ) (ss : List Stroke) (t : Told) : Type 0 where
  pub cause : PageCause
  pub place : ℕ
  pub state : State
  pub told : t ≡ told_at cause place
  pub within : place ≤ length bs
  pub before : take place bs ≡ page_bytes ss ++ open_bytes state
  pub strokes_fit : AllByRecursion StrokeFits ss
  pub open_fits : OpenFits state
  pub stops : Stops cause (part_of state) (drop place bs)

abbrev pub Verdict : List ℕ → List Stroke → Ending → Type 0
Verdict bs ss accepted = (bs ≡ page_bytes ss) × AllByRecursion StrokeFits ss
Verdict bs ss (refused_by t) = RefusedFirst bs ss t

abbrev pub Judged : List ℕ → Type 0
Judged bs = Verdict bs (reading bs).strokes (reading bs).ending

abbrev pub Alone : List ℕ → Type 0
Alone bs = (ss : List Stroke) (e : Ending) → Verdict bs ss e → reading bs ≡ record { strokes = ss; ending = e }
