use Rattle.std.proofs.Common.{◌≡◌}
use Rattle.tails.specs.Moves.{by_idle}
use Rattle.tails.specs.States.{state_of}
use Rattle.tails.proofs.Lists.{idles_from}
use Rattle.tails.proofs.moves.by_idle.Given as goal

abbrev pub invariant-loop-k : goal.invariant-loop-k
invariant-loop-k l = idles_from l.state.spans l.state.steps.items l.k ≡ by_idle (state_of l.state)
