use Rattle.completeness.proofs.LimitsAlone.{limits_alone}
use Rattle.completeness.proofs.told.limits_alone_are_told.Goals as goal

pub returns : goal.returns
returns c = limits_alone
