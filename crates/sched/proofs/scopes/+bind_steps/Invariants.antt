use Rattle.std.proofs.Common.{length}
use Rattle.sched.proofs.scopes.+bind_steps.Given as goal

abbrev pub decreases-bind_steps : goal.decreases-bind_steps
decreases-bind_steps l = length l.steps.now
