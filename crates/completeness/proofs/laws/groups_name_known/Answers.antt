use Rattle.completeness.proofs.KnownLines.{known}
use Rattle.completeness.proofs.laws.groups_name_known.Goals as goal

pub returns : goal.returns
returns c = known
