use Rattle.sched.proofs.Computed.{rows_stand}
use Rattle.sched.proofs.worked.rows_stand.Goals as goal

pub returns : goal.returns
returns c = rows_stand
