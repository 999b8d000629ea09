use Rattle.audit.proofs.OfVerdict.OfPlans.Summed.{first_point}
use Rattle.audit.proofs.verdict.plans.sums.first_point_is_needed.Goals as goal

pub returns : goal.returns
returns c = first_point
