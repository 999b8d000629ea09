use Rattle.audit.proofs.OfVerdict.NearPlan.{near_accepted}
use Rattle.audit.proofs.verdict.examples.near_is_accepted.Goals as goal

pub returns : goal.returns
returns c = near_accepted
