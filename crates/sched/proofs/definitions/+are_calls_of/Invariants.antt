use Rattle.std.proofs.Common.{length}
use Rattle.sched.proofs.definitions.+are_calls_of.Given as goal

abbrev pub decreases-are_calls_of : goal.decreases-are_calls_of
decreases-are_calls_of l = length l.calls.now
