use Rattle.completeness.proofs.WorkedTails.{splits_are_once}
use Rattle.completeness.proofs.worked.splits_are_once.Goals as goal

pub returns : goal.returns
returns c = splits_are_once
