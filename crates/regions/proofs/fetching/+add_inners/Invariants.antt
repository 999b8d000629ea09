use Rattle.std.proofs.Common.{length}
use Rattle.regions.proofs.fetching.+add_inners.Given as goal

abbrev pub decreases-add_inners : goal.decreases-add_inners
decreases-add_inners l = length l.inners.now
