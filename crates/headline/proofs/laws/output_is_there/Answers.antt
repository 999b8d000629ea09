use Rattle.headline.proofs.Output.{output_there}
use Rattle.headline.proofs.laws.output_is_there.Goals as goal

pub returns : goal.returns
returns c = output_there
