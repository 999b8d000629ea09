use Rattle.tails.proofs.Distinct.{once_is_distinct}
use Rattle.tails.proofs.laws.once_is_distinct.Goals as goal

pub returns : goal.returns
returns c = once_is_distinct
