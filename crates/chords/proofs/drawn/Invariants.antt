use Rattle.std.proofs.Common.{◌≡◌, drop}
use Rattle.tray.specs.Trays.{writing}
use Rattle.chords.specs.Every.{put_after_all, put_in_turn}
use Rattle.chords.proofs.drawn.Given as goal

abbrev pub invariant-loop-p : goal.invariant-loop-p
invariant-loop-p l = put_after_all (writing l.tray).points (drop l.p-index l.places) ≡ put_in_turn l.places
