use Rattle.sched.proofs.Arriving.{skeletal}
use Rattle.sched.proofs.laws.skeletons_bind_in_order.Goals as goal

pub returns : goal.returns
returns c = skeletal
