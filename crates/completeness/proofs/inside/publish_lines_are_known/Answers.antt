use Rattle.completeness.proofs.InnerPublished.{known}
use Rattle.completeness.proofs.inside.publish_lines_are_known.Goals as goal

pub returns : goal.returns
returns c = known
