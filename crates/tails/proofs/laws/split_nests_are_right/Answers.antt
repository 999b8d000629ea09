use Rattle.tails.proofs.Made.{split_nests_right}
use Rattle.tails.proofs.laws.split_nests_are_right.Goals as goal

pub returns : goal.returns
returns c = split_nests_right c.plain_nests_are_right.ensures
