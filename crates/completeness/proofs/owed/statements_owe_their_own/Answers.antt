use Rattle.completeness.proofs.Joined.{owed}
use Rattle.completeness.proofs.owed.statements_owe_their_own.Goals as goal

pub returns : goal.returns
returns c = owed
