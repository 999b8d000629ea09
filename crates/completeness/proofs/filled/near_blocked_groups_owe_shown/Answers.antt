use Rattle.completeness.proofs.StoreLaw.{near_blocked_owed}
use Rattle.completeness.proofs.filled.near_blocked_groups_owe_shown.Goals as goal

pub returns : goal.returns
returns c = near_blocked_owed
