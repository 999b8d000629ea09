use Rattle.completeness.proofs.Lines.{limits}
use Rattle.completeness.proofs.laws.only_limits_are_told_of_lines.Goals as goal

pub returns : goal.returns
returns c = limits
