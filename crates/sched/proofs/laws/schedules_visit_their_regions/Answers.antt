use Rattle.sched.proofs.Scheduling.{visit_their_regions}
use Rattle.sched.proofs.laws.schedules_visit_their_regions.Goals as goal

pub returns : goal.returns
returns c = visit_their_regions
