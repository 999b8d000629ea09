use Rattle.completeness.proofs.InnerStored.{stored}
use Rattle.completeness.proofs.inside.definitions_are_stored.Goals as goal

pub returns : goal.returns
returns c = stored
