use Rattle.sched.proofs.Computed.{outside_stands}
use Rattle.sched.proofs.worked.outside_stands.Goals as goal

pub returns : goal.returns
returns c = outside_stands
