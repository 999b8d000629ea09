use Rattle.validation.proofs.Another.{another_told}
use Rattle.validation.proofs.groups.laws.other_definitions_are_told.Goals as goal

pub returns : goal.returns
returns c = another_told
