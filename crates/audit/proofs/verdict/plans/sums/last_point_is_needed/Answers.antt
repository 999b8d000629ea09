use Rattle.audit.proofs.OfVerdict.OfPlans.Summed.{last_point}
use Rattle.audit.proofs.verdict.plans.sums.last_point_is_needed.Goals as goal

pub returns : goal.returns
returns c = last_point
