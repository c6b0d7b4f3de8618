-- What a page's refusal tells.
--   number_of c   the number of the cause c
--   told_at c p   what is told of the cause c at the place p
--   told f        what a refusal of a page tells
--   step_told f   what a refusal of a step tells: that of the page inside it
use Rattle.std.specs.Prelude.{ℕ}
use Rattle.refusal.specs.declared.Told.{Told}
use Rattle.refusal.specs.declared.Layer.TheVariants.{Page}
use Rattle.refusal.specs.Said.{at_layer}
use Rattle.page.specs.declared.fault.PageCause.{PageCause}
use Rattle.page.specs.declared.fault.PageCause.TheVariants.{CutRecord, StrangeKind, WrongLength, OutOfPlace, WrongCode, ShortPage}
use Rattle.page.specs.declared.fault.PageFault.{PageFault}
use Rattle.page.specs.declared.fault.StepFault.{StepFault}
use Rattle.page.specs.declared.fault.StepFault.TheVariants.{Page as Read, Answers}

abbrev pub number_of : PageCause → ℕ
number_of CutRecord = 11
number_of StrangeKind = 12
number_of WrongLength = 13
number_of OutOfPlace = 14
number_of WrongCode = 15
number_of ShortPage = 16

abbrev pub told_at : PageCause → ℕ → Told
told_at c p = at_layer Page (number_of c) p

abbrev pub told : PageFault → Told
told f = told_at f.cause f.place

abbrev pub step_told : StepFault → Told
step_told (Read f) = told f
step_told (Answers f) = told f
