use Rattle.std.proofs.Common.{◌≡◌, ◌++◌, map, take}
use Rattle.soundness.specs.Binders.View.{binders_of}
use Rattle.tails.specs.Steps.{along}
use Rattle.tails.specs.View.{step_of}
use Rattle.tails.proofs.stored.inner_binders.Given as goal

abbrev pub invariant-loop-step : goal.invariant-loop-step
invariant-loop-step l = binders_of l.all.items ≡ along (map step_of (take l.step-index l.steps)) ++ binders_of l.binders
