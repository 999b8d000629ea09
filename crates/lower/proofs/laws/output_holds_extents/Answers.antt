use Rattle.lower.proofs.Reached.{output_holds}
use Rattle.lower.proofs.laws.output_holds_extents.Goals as goal

pub returns : goal.returns
returns c = output_holds
