use Rattle.std.proofs.Common.{◌≡◌, take}
use Rattle.tails.proofs.moves.copied.Given as goal

abbrev pub invariant-loop-step : goal.invariant-loop-step
invariant-loop-step l = l.all.items ≡ take l.step-index l.steps
