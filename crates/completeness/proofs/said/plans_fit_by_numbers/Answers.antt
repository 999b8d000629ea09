use Rattle.completeness.proofs.SaidLines.{plans_fit_by_numbers}
use Rattle.completeness.proofs.said.plans_fit_by_numbers.Goals as goal

pub returns : goal.returns
returns c = plans_fit_by_numbers
