use Rattle.std.proofs.Common.{length}
use Rattle.tails.proofs.reduction.+are_whole.Given as goal

abbrev pub decreases-are_whole : goal.decreases-are_whole
decreases-are_whole g l = length l.steps.now
