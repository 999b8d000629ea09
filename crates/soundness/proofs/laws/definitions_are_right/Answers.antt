use Rattle.soundness.proofs.Stored.{definitions_right}
use Rattle.soundness.proofs.laws.definitions_are_right.Goals as goal

pub returns : goal.returns
returns c = definitions_right
