-- What a caller in another language is told.
--   status_of   how many strokes were answered, and the number and the place of the refusal; number 0 where there is none
use Rattle.std.specs.Prelude.{ℕ}
use Rattle.page.specs.Steps.{Ending, accepted, refused_by}
use Rattle.job.specs.Jobs.{Outcome}
use Rattle.plotter.specs.declared.Status.{Status}

abbrev pub by_ending : ℕ → Ending → Status
by_ending n accepted = record { strokes = n; refusal = 0; place = 0 }
by_ending n (refused_by t) = record { strokes = n; refusal = t.number; place = t.place }

abbrev pub status_of : Outcome → Status
status_of o = by_ending o.answered o.ending
