use Rattle.audit.proofs.OfVerdict.OfKinds.{actions_stay}
use Rattle.audit.proofs.verdict.kinds.actions_stay.Goals as goal

pub returns : goal.returns
returns c = actions_stay
