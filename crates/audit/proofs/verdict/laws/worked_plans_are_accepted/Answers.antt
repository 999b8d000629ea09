use Rattle.audit.proofs.OfVerdict.WorkedPlans.{worked_accepted}
use Rattle.audit.proofs.verdict.laws.worked_plans_are_accepted.Goals as goal

pub returns : goal.returns
returns c = worked_accepted
