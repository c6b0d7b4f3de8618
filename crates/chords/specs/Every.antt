-- All chords of a stroke together.
--   put_after_all ps qs   the points ps, and after them the places qs put in turn; a refused one is left out
--   put_in_turn           the same on a bare tray
--   counted               an answered error, or 0 where the chord is barred
--   counted_at m ps j i   the same at the chord from i to j
--   errors_to m ps j      the sum of the errors of the chords to the point j
--   every_error m ps      the sum of the errors of all chords
use Rattle.std.specs.Prelude.{ℕ, ◌+◌, ◌-◌, List, [], ◌∷◌, length, Some, None, Option}
use Rattle.tray.specs.declared.point.Point.{Point}
use Rattle.tray.specs.Machine.{put_after}
use Rattle.tray.specs.Reductions.{Meaning}
use Rattle.measure.specs.Between.{gathered}
use Rattle.chords.specs.declared.Place.{Place}

abbrev pub put_after_all : List Point → List Place → List Point
put_after_all ps [] = ps
put_after_all ps (q ∷ qs) = put_after_all (put_after ps q.x q.y q.t) qs

abbrev pub put_in_turn : List Place → List Point
put_in_turn qs = put_after_all [] qs

abbrev pub counted : Option ℕ → ℕ
counted (Some e) = e
counted None = 0

abbrev pub counted_at : Meaning → List Point → ℕ → ℕ → ℕ
counted_at m ps j i = counted (m ps i j)

abbrev pub errors_to : Meaning → List Point → ℕ → ℕ
errors_to m ps j = gathered ◌+◌ 0 (counted_at m ps j) 1 (j - 1)

abbrev pub every_error : Meaning → List Point → ℕ
every_error m ps = gathered ◌+◌ 0 (errors_to m ps) 1 (length ps)
