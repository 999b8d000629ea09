use Rattle.tails.proofs.Risen.{ordered_is_rising}
use Rattle.tails.proofs.laws.ordered_is_rising.Goals as goal

pub returns : goal.returns
returns c = ordered_is_rising
