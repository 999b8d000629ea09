use Rattle.crew.proofs.Samples.{values_samples}
use Rattle.crew.proofs.opening.laws.values_are_samples.Goals as goal

pub returns : goal.returns
returns c = values_samples
