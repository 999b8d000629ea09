use Rattle.soundness.proofs.Computed.{claims_are_asked}
use Rattle.soundness.proofs.worked.claims_are_asked.Goals as goal

pub returns : goal.returns
returns c = claims_are_asked
