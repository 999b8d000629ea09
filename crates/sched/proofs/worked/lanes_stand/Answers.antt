use Rattle.sched.proofs.Computed.{lanes_stand}
use Rattle.sched.proofs.worked.lanes_stand.Goals as goal

pub returns : goal.returns
returns c = lanes_stand
