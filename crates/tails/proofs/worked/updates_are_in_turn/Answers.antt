use Rattle.tails.proofs.Computed.{updates_are_in_turn}
use Rattle.tails.proofs.worked.updates_are_in_turn.Goals as goal

pub returns : goal.returns
returns c = updates_are_in_turn
