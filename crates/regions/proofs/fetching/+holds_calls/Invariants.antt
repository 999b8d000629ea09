use Rattle.std.proofs.Common.{length}
use Rattle.regions.proofs.fetching.+holds_calls.Given as goal

abbrev pub decreases-holds_calls : goal.decreases-holds_calls
decreases-holds_calls l = length l.calls.now
