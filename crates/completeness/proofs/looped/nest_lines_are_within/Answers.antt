use Rattle.completeness.proofs.LoopedForms.{nests_within}
use Rattle.completeness.proofs.looped.nest_lines_are_within.Goals as goal

pub returns : goal.returns
returns c = nests_within
