use Rattle.std.proofs.Common.{length}
use Rattle.lower.proofs.parties.+unlaid.Given as goal

abbrev pub decreases-unlaid : goal.decreases-unlaid
decreases-unlaid l = length l.stored.now
