-- What a call says to its caller, whatever its type of refusals.
--   said told r   the answer of r, or what its refusal tells
--   at_layer      a refusal by its layer, number and place
use Rattle.std.specs.Prelude.{ℕ, Ok, Err, Result}
use Rattle.refusal.specs.declared.Told.{Told}
use Rattle.refusal.specs.declared.Layer.{Layer}

abbrev pub said : {A E : Type 0} → (E → Told) → Result A E → Result A Told
said told (Ok a) = Ok a
said told (Err e) = Err (told e)

abbrev pub at_layer : Layer → ℕ → ℕ → Told
at_layer l n p = record { number = n; place = p; layer = l }
