use Rattle.sched.proofs.Computed.{updates_stand}
use Rattle.sched.proofs.worked.updates_stand.Goals as goal

pub returns : goal.returns
returns c = updates_stand
