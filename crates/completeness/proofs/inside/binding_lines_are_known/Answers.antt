use Rattle.completeness.proofs.InnerLines.{known}
use Rattle.completeness.proofs.inside.binding_lines_are_known.Goals as goal

pub returns : goal.returns
returns c = known
