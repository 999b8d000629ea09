use Rattle.completeness.proofs.GroupLines.{known}
use Rattle.completeness.proofs.laws.group_lines_are_known.Goals as goal

pub returns : goal.returns
returns c = known
