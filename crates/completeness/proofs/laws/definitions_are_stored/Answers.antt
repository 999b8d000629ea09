use Rattle.completeness.proofs.Unlike.{stored}
use Rattle.completeness.proofs.laws.definitions_are_stored.Goals as goal

pub returns : goal.returns
returns c = stored
