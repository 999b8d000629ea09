use Rattle.validation.proofs.Limits.{limits_told}
use Rattle.validation.proofs.groups.laws.limits_are_told.Goals as goal

pub returns : goal.returns
returns c = limits_told
