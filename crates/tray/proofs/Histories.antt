-- A history with one call more.
use Rattle.std.proofs.Common.{◌≡◌, [], ◌∷◌, refl}
use Rattle.tray.specs.History.{State, Call, History, ◌▸◌, step, run}

pub run_more : (s : State) (h : History) (c : Call) → run s (h ▸ c) ≡ step (run s h) c
run_more s [] c = refl
run_more s (b ∷ h) c = run_more (step s b) h c
