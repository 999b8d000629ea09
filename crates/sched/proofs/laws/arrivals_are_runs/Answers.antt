use Rattle.sched.proofs.Running.{arrivals_are_runs}
use Rattle.sched.proofs.laws.arrivals_are_runs.Goals as goal

pub returns : goal.returns
returns c = arrivals_are_runs
