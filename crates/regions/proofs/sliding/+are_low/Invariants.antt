use Rattle.std.proofs.Common.{length}
use Rattle.regions.proofs.sliding.+are_low.Given as goal

abbrev pub decreases-are_low : goal.decreases-are_low
decreases-are_low l = length l.symbols.now
