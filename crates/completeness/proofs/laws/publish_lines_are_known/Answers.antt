use Rattle.completeness.proofs.PublishLines.{known}
use Rattle.completeness.proofs.laws.publish_lines_are_known.Goals as goal

pub returns : goal.returns
returns c = known
