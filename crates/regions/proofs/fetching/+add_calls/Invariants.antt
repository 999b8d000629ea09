use Rattle.std.proofs.Common.{length}
use Rattle.regions.proofs.fetching.+add_calls.Given as goal

abbrev pub decreases-add_calls : goal.decreases-add_calls
decreases-add_calls l = length l.calls.now
