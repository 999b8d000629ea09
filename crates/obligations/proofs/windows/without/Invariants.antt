use Rattle.std.proofs.Common.{◌≡◌, ◌++◌, drop}
use Rattle.soundness.specs.Obligations.{without}
use Rattle.obligations.specs.Context.Around.{windows_of}
use Rattle.obligations.proofs.windows.without.Given as goal

abbrev pub invariant-loop-window : goal.invariant-loop-window
invariant-loop-window l = windows_of l.left.items ++ without l.claims (windows_of (drop l.window-index l.windows)) ≡ without l.claims (windows_of l.windows)
