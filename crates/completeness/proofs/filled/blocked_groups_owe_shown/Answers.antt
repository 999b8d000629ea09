use Rattle.completeness.proofs.BlockStores.{blocked_owed}
use Rattle.completeness.proofs.filled.blocked_groups_owe_shown.Goals as goal

pub returns : goal.returns
returns c = blocked_owed
