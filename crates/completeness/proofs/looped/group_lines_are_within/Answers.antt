use Rattle.completeness.proofs.LoopedForms.{groups_within}
use Rattle.completeness.proofs.looped.group_lines_are_within.Goals as goal

pub returns : goal.returns
returns c = groups_within
