-- What each refusal of a tray tells.
--   told    its number, its place and its layer, cause by cause
--   tells   what a call says: its answer, or what its refusal tells
use Rattle.std.specs.Prelude.{Result}
use Rattle.refusal.specs.declared.Told.{Told}
use Rattle.refusal.specs.declared.Layer.TheVariants.{Tray}
use Rattle.refusal.specs.Said.{said, at_layer}
use Rattle.tray.specs.declared.causes.Refusal.{Refusal}
use Rattle.tray.specs.declared.causes.Refusal.TheVariants.{OffSheet, StoppedClock, LongStroke, FullTray, BareTray, NoSuchPoint, WideTolerance, ShortTable, NoWay, ShortList}

abbrev pub told : Refusal → Told
told (OffSheet p) = at_layer Tray 1 p
told (StoppedClock p) = at_layer Tray 2 p
told (LongStroke p) = at_layer Tray 3 p
told FullTray = at_layer Tray 4 513
told BareTray = at_layer Tray 5 0
told (NoSuchPoint p) = at_layer Tray 6 p
told WideTolerance = at_layer Tray 7 0
told (ShortTable p) = at_layer Tray 8 p
told (NoWay p) = at_layer Tray 9 p
told (ShortList p) = at_layer Tray 10 p

abbrev pub tells : {A : Type 0} → Result A Refusal → Result A Told
tells r = said told r
