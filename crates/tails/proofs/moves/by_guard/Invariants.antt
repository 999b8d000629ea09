use Rattle.std.proofs.Common.{◌≡◌}
use Rattle.tails.specs.Moves.{by_guard}
use Rattle.tails.specs.States.{state_of}
use Rattle.tails.proofs.Lists.{guards_from}
use Rattle.tails.proofs.moves.by_guard.Given as goal

abbrev pub invariant-loop-k : goal.invariant-loop-k
invariant-loop-k g l = guards_from l.exact (g.S.Shows.shows l.shows) l.state.spans l.state.steps.items l.k ≡ by_guard l.exact (g.S.Shows.shows l.shows) (state_of l.state)
