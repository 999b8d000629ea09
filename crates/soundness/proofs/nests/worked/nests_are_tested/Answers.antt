use Rattle.soundness.proofs.Computed.{nests_are_tested}
use Rattle.soundness.proofs.nests.worked.nests_are_tested.Goals as goal

pub returns : goal.returns
returns c = nests_are_tested
