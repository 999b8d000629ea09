use Rattle.shares.proofs.WorkedShares.{shares_worked}
use Rattle.shares.proofs.laws.worked_shares.Goals as goal

pub returns : goal.returns
returns c = shares_worked
