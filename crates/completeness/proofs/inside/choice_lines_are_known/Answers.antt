use Rattle.completeness.proofs.InnerChoices.{known}
use Rattle.completeness.proofs.inside.choice_lines_are_known.Goals as goal

pub returns : goal.returns
returns c = known
