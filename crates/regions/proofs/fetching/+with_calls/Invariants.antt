use Rattle.std.proofs.Common.{length}
use Rattle.regions.proofs.fetching.+with_calls.Given as goal

abbrev pub decreases-with_calls : goal.decreases-with_calls
decreases-with_calls l = length l.calls.now
