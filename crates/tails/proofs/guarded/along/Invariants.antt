use Rattle.std.proofs.Common.{◌≡◌, map, take}
use Rattle.tails.specs.Steps.{along}
use Rattle.tails.specs.View.{step_of}
use Rattle.tails.specs.Held.{pendings_of}
use Rattle.tails.proofs.guarded.along.Given as goal

abbrev pub invariant-loop-step : goal.invariant-loop-step
invariant-loop-step l = pendings_of l.all.items ≡ along (map step_of (take l.step-index l.steps))
