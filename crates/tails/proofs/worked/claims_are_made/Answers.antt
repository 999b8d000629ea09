use Rattle.tails.proofs.Computed.{claims_are_made}
use Rattle.tails.proofs.worked.claims_are_made.Goals as goal

pub returns : goal.returns
returns c = claims_are_made
