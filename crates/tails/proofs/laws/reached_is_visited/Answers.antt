use Rattle.tails.proofs.Reaching.{reached_is_visited}
use Rattle.tails.proofs.laws.reached_is_visited.Goals as goal

pub returns : goal.returns
returns c = reached_is_visited
