use Rattle.completeness.proofs.TailShown.{shown}
use Rattle.completeness.proofs.blocked.blocked_claims_owe_shown.Goals as goal

pub returns : goal.returns
returns c = shown
