use Rattle.sched.proofs.Computed.{blocks_stand}
use Rattle.sched.proofs.worked.blocks_stand.Goals as goal

pub returns : goal.returns
returns c = blocks_stand
