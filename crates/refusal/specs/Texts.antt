-- What a refusal reads as, as bytes.
--   layer_text     the word of a layer
--   worded w n     the word w and then the number n
--   refused_text   the number and the place of a refusal
--   refusal_text   all that a refusal tells, its layer first
use Rattle.std.specs.Prelude.{ℕ, List, ◌++◌, codes, decimal}
use Rattle.refusal.specs.declared.Told.{Told}
use Rattle.refusal.specs.declared.Layer.{Layer}
use Rattle.refusal.specs.declared.Layer.TheVariants.{Tray, Page, Program}

abbrev pub layer_text : Layer → List ℕ
layer_text Tray = codes "tray"
layer_text Page = codes "page"
layer_text Program = codes "program"

abbrev pub worded : List ℕ → ℕ → List ℕ
worded w n = w ++ decimal n

abbrev pub refused_text : Told → List ℕ
refused_text t = worded (codes " refused ") t.number ++ worded (codes " at ") t.place

abbrev pub refusal_text : Told → List ℕ
refusal_text t = layer_text t.layer ++ refused_text t
