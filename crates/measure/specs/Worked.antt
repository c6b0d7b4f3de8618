-- Chords of two strokes, worked out.
--   hook, wave     the strokes
--   WorkedChords   what the bare measures answer at some of their chords
use Rattle.std.specs.Prelude.{◌≡◌, List, [], ◌∷◌, pos, negsuc, Some}
use Rattle.tray.specs.declared.point.Point.{Point}
use Rattle.tray.specs.Machine.{plain}
use Rattle.measure.specs.Synchronous.{synchronous}
use Rattle.measure.specs.Distance.{distance}
use Rattle.measure.specs.Area.{area}

abbrev pub hook : List Point
hook =
    plain (pos 0) (pos 0) 0 ∷ plain (pos 1) (pos 4) 1 ∷ plain (pos 2) (pos 4) 2 ∷ plain (pos 3) (pos 3) 3 ∷ plain (pos 4) (pos 0) 4 ∷ []

abbrev pub wave : List Point
wave =
    plain (pos 0) (pos 0) 0 ∷ plain (pos 1) (pos 2) 1 ∷ plain (pos 2) (pos 0) 2 ∷ plain (pos 3) (negsuc 1) 3 ∷ plain (pos 4) (pos 0) 4 ∷ []

pub record WorkedChords : Type 0 where
  pub hook_synchronous_1_3 : synchronous hook 1 3 ≡ Some 4
  pub hook_synchronous_3_5 : synchronous hook 3 5 ≡ Some 1
  pub hook_synchronous_2_4 : synchronous hook 2 4 ≡ Some 1
  pub hook_synchronous_2_5 : synchronous hook 2 5 ≡ Some 5
  pub hook_synchronous_1_4 : synchronous hook 1 4 ≡ Some 13
  pub hook_synchronous_1_5 : synchronous hook 1 5 ≡ Some 41
  pub hook_distance_1_4 : distance hook 1 4 ≡ Some 5
  pub hook_area_1_4 : area hook 1 4 ≡ Some 10
  pub wave_area_1_5 : area wave 1 5 ≡ Some 0
