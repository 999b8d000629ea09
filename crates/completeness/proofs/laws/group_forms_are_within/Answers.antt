use Rattle.completeness.proofs.LimitedLines.{begin_within}
use Rattle.completeness.proofs.laws.group_forms_are_within.Goals as goal

pub returns : goal.returns
returns c = begin_within
