use Rattle.std.proofs.Common.{◌≡◌, false}
use Rattle.tails.specs.Moves.{by_let}
use Rattle.tails.specs.States.{state_of}
use Rattle.tails.proofs.Lists.{lets_from}
use Rattle.tails.proofs.moves.by_let.Given as goal

abbrev pub invariant-loop-k : goal.invariant-loop-k
invariant-loop-k l = lets_from l.exact (λ a b. false) l.state.spans l.state.steps.items l.k ≡ by_let l.exact (λ a b. false) (state_of l.state)
