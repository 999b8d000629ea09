use Rattle.std.proofs.Common.{length}
use Rattle.regions.proofs.fetching.+hold_calls.Given as goal

abbrev pub decreases-hold_calls : goal.decreases-hold_calls
decreases-hold_calls l = length l.sites.now
