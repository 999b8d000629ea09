use Rattle.completeness.proofs.Joined.{left}
use Rattle.completeness.proofs.owed.stores_and_nests_are_left.Goals as goal

pub returns : goal.returns
returns c = left
