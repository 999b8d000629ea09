use Rattle.validation.proofs.Unknown.{unknown_told}
use Rattle.validation.proofs.groups.laws.unknown_names_are_told.Goals as goal

pub returns : goal.returns
returns c = unknown_told
