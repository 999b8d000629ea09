use Rattle.completeness.proofs.SaidPlans.{plans_are_said}
use Rattle.completeness.proofs.said.plans_are_said.Goals as goal

pub returns : goal.returns
returns c = plans_are_said
