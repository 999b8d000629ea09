use Rattle.soundness.proofs.Right.{plain_nests_right}
use Rattle.soundness.proofs.nests.laws.plain_nests_are_right.Goals as goal

pub returns : goal.returns
returns c = plain_nests_right
