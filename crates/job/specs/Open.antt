-- What an open stroke holds of the points that were read.
--   standing         the points on its tray, or what its refusal tells
--   Holds o ps       it stands as the puts of ps leave it, and has the marks of ps
use Rattle.std.specs.Prelude.{◌≡◌, List, map, Ok, Err, Result, OnOk}
use Rattle.refusal.specs.declared.Told.{Told}
use Rattle.tray.specs.declared.point.Point.{Point}
use Rattle.tray.specs.declared.causes.Refusal.{Refusal}
use Rattle.tray.specs.Refusals.{told}
use Rattle.tray.specs.Trays.{writing}
use Rattle.page.specs.declared.kinds.Point.{Point as Dot}
use Rattle.job.specs.declared.open.OpenStroke.{OpenStroke}
use Rattle.job.specs.Answer.{drawing}

abbrev pub put_or : Result (Unit {0}) Refusal → List Point → Result (List Point) Told
put_or (Ok u) qs = Ok qs
put_or (Err e) qs = Err (told e)

abbrev pub standing : OpenStroke → Result (List Point) Told
standing o = put_or o.drawn (writing o.tray).points

pub record Holds (o : OpenStroke) (ps : List Dot) : Type 0 where
  pub stands : standing o ≡ drawing ps
  pub marked : OnOk o.drawn (o.marks.items ≡ map (λ p. p.mark) ps)
