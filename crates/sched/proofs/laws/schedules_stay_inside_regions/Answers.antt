use Rattle.sched.proofs.Staying.{stay_inside_regions}
use Rattle.sched.proofs.laws.schedules_stay_inside_regions.Goals as goal

pub returns : goal.returns
returns c = stay_inside_regions
