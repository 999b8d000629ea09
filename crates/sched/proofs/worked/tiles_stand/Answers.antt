use Rattle.sched.proofs.Computed.{tiles_stand}
use Rattle.sched.proofs.worked.tiles_stand.Goals as goal

pub returns : goal.returns
returns c = tiles_stand
