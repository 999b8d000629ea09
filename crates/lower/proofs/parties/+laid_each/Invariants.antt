use Rattle.std.proofs.Common.{length}
use Rattle.lower.proofs.parties.+laid_each.Given as goal

abbrev pub decreases-laid_each : goal.decreases-laid_each
decreases-laid_each l = length l.stored.now
