use Rattle.completeness.proofs.StoreLines.{known}
use Rattle.completeness.proofs.laws.store_lines_are_known.Goals as goal

pub returns : goal.returns
returns c = known
