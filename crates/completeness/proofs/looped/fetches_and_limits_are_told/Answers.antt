use Rattle.completeness.proofs.LoopedShares.{told}
use Rattle.completeness.proofs.looped.fetches_and_limits_are_told.Goals as goal

pub returns : goal.returns
returns c = told
