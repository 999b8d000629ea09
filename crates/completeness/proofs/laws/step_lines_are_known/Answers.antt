use Rattle.completeness.proofs.Scoped.{known}
use Rattle.completeness.proofs.laws.step_lines_are_known.Goals as goal

pub returns : goal.returns
returns c = known
