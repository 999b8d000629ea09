use Rattle.soundness.proofs.Accepted.{plain_nests_accepted}
use Rattle.soundness.proofs.nests.laws.plain_nests_are_accepted.Goals as goal

pub returns : goal.returns
returns c = plain_nests_accepted
