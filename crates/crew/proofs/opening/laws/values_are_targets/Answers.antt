use Rattle.crew.proofs.Samples.{values_targets}
use Rattle.crew.proofs.opening.laws.values_are_targets.Goals as goal

pub returns : goal.returns
returns c = values_targets
