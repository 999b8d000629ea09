use Rattle.completeness.proofs.Shared.{limits}
use Rattle.completeness.proofs.laws.only_limits_are_told.Goals as goal

pub returns : goal.returns
returns c = limits
