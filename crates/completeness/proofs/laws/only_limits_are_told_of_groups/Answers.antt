use Rattle.completeness.proofs.OnlyLimits.{told}
use Rattle.completeness.proofs.laws.only_limits_are_told_of_groups.Goals as goal

pub returns : goal.returns
returns c = told
