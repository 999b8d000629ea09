use Rattle.completeness.proofs.PublishShown.{shown}
use Rattle.completeness.proofs.owed.publish_lines_owe_shown.Goals as goal

pub returns : goal.returns
returns c = shown
