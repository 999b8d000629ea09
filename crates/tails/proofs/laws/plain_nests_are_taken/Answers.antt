use Rattle.tails.proofs.Made.{plain_nests_taken}
use Rattle.tails.proofs.laws.plain_nests_are_taken.Goals as goal

pub returns : goal.returns
returns c = plain_nests_taken
