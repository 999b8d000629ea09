use Rattle.std.proofs.Common.{length}
use Rattle.lower.proofs.parties.+add_parties.Given as goal

abbrev pub decreases-add_parties : goal.decreases-add_parties
decreases-add_parties l = length l.parties.now
