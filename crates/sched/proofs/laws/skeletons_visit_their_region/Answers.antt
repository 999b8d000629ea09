use Rattle.sched.proofs.Starting.{visit_their_region}
use Rattle.sched.proofs.laws.skeletons_visit_their_region.Goals as goal

pub returns : goal.returns
returns c = visit_their_region
