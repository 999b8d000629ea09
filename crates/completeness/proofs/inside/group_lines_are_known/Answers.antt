use Rattle.completeness.proofs.InnerGroups.{known}
use Rattle.completeness.proofs.inside.group_lines_are_known.Goals as goal

pub returns : goal.returns
returns c = known
