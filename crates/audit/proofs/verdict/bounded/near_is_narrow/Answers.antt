use Rattle.audit.proofs.OfVerdict.Walk.{near_narrow}
use Rattle.audit.proofs.verdict.bounded.near_is_narrow.Goals as goal

pub returns : goal.returns
returns c = near_narrow
