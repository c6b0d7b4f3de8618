-- Whether a walk stands between strokes.
use Rattle.std.specs.Prelude.{Bool, true, false}
use Rattle.page.specs.declared.kinds.Part.{Part}
use Rattle.page.specs.declared.kinds.Part.TheVariants.{Outside, Inside}

abbrev pub is_outside : Part → Bool
is_outside Outside = true
is_outside Inside = false
