use Rattle.std.proofs.Common.{length}
use Rattle.tails.proofs.turns.+are_gapless.Given as goal

abbrev pub decreases-are_gapless : goal.decreases-are_gapless
decreases-are_gapless l = length l.upper.now
