-- What pages keep.
--   WrittenReadsBack   strokes that were written read back as themselves
--   AcceptedStays bs   if the page bs is accepted, its strokes written again are its bytes
use Rattle.std.specs.Prelude.{◌≡◌, ℕ, List}
use Rattle.std.specs.List.{AllByRecursion}
use Rattle.page.specs.Strokes.{Stroke, page_bytes}
use Rattle.page.specs.Fits.{StrokeFits}
use Rattle.page.specs.Steps.{accepted, reading}

abbrev pub WrittenReadsBack : Type 0
WrittenReadsBack = (ss : List Stroke) → AllByRecursion StrokeFits ss → reading (page_bytes ss) ≡ record { strokes = ss; ending = accepted }

abbrev pub AcceptedStays : List ℕ → Type 0
AcceptedStays bs = (reading bs).ending ≡ accepted → page_bytes (reading bs).strokes ≡ bs
