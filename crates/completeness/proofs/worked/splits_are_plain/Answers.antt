use Rattle.completeness.proofs.WorkedSplits.{splits_are_plain}
use Rattle.completeness.proofs.worked.splits_are_plain.Goals as goal

pub returns : goal.returns
returns c = splits_are_plain
