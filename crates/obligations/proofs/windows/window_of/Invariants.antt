use Rattle.std.proofs.Common.{◌≡◌, drop}
use Rattle.soundness.specs.Obligations.{window_of}
use Rattle.obligations.specs.Context.Around.{windows_of}
use Rattle.obligations.proofs.windows.window_of.Given as goal

abbrev pub invariant-loop-window : goal.invariant-loop-window
invariant-loop-window l = window_of (windows_of l.windows) l.claim ≡ window_of (windows_of (drop l.window-index l.windows)) l.claim
