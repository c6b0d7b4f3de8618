-- Everything that the program prints, as bytes.
--   with_feed l    the line l with the line feed that ends it
--   stroke_text    what is printed of a stroke
--   ending_text    what is printed of the end of a reading: nothing, or the line of the page's refusal
--   read_text      what is printed of a reading: of each stroke in turn, and then of its end
--   page_text      what is printed of a page
--   longest        how many bytes a page may have
--   long_page      what is told of an input with more
--   refused_input  what is told of an input that is refused, by the cause
--   program_text   what is printed of an input
--   LinesInTurn    strokes on a page print what each of them prints alone, in turn, and nothing else
use Rattle.std.specs.Prelude.{◌≡◌, ℕ, ◌≤◌, cond, List, [], ◌∷◌, ◌++◌, length, nat_lt}
use Rattle.std.specs.List.{flat_map, AllByRecursion}
use Rattle.refusal.specs.declared.Told.{Told}
use Rattle.refusal.specs.declared.Layer.TheVariants.{Program}
use Rattle.refusal.specs.Said.{at_layer}
use Rattle.refusal.specs.Texts.{refusal_text}
use Rattle.page.specs.Strokes.{Stroke, page_bytes}
use Rattle.page.specs.Fits.{StrokeFits}
use Rattle.page.specs.Steps.{Reading, Ending, accepted, refused_by, reading}
use Rattle.job.specs.Jobs.{line_of}
use Rattle.lines.specs.declared.output.InputCause.{InputCause}
use Rattle.lines.specs.declared.output.InputCause.TheVariants.{TooLong}
use Rattle.lines.specs.Text.{line_text}

abbrev pub with_feed : List ℕ → List ℕ
with_feed l = l ++ 10 ∷ []

abbrev pub stroke_text : Stroke → List ℕ
stroke_text s = with_feed (line_text (line_of s))

abbrev pub ending_text : Ending → List ℕ
ending_text accepted = []
ending_text (refused_by t) = with_feed (refusal_text t)

abbrev pub read_text : Reading → List ℕ
read_text r = flat_map stroke_text r.strokes ++ ending_text r.ending

abbrev pub page_text : List ℕ → List ℕ
page_text bs = read_text (reading bs)

abbrev pub longest : ℕ
longest = 65536

abbrev pub long_page : Told
long_page = at_layer Program 17 longest

abbrev pub refused_input : InputCause → Told
refused_input TooLong = long_page

abbrev pub program_text : List ℕ → List ℕ
program_text bs = cond (nat_lt longest (length bs)) (with_feed (refusal_text long_page)) (page_text bs)

abbrev pub LinesInTurn : Type 0
LinesInTurn = (ss : List Stroke) → AllByRecursion StrokeFits ss → length (page_bytes ss) ≤ longest → program_text (page_bytes ss) ≡ flat_map stroke_text ss
