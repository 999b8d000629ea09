use Rattle.completeness.proofs.LimitedLines.{within}
use Rattle.completeness.proofs.laws.nest_forms_are_within.Goals as goal

pub returns : goal.returns
returns c = within
