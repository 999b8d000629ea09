use Rattle.completeness.proofs.AllocLines.{known}
use Rattle.completeness.proofs.laws.alloc_lines_are_known.Goals as goal

pub returns : goal.returns
returns c = known
