use Rattle.completeness.proofs.FaultLimits.{faults_limited}
use Rattle.completeness.proofs.told.faults_are_limits.Goals as goal

pub returns : goal.returns
returns c = faults_limited
