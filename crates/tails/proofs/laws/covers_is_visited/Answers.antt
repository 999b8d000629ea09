use Rattle.tails.proofs.Covering.{covers_is_visited}
use Rattle.tails.proofs.laws.covers_is_visited.Goals as goal

pub returns : goal.returns
returns c = covers_is_visited
