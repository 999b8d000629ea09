use Rattle.std.proofs.Common.{length}
use Rattle.tails.proofs.naming.+opened.Given as goal

abbrev pub decreases-opened : goal.decreases-opened
decreases-opened l = length l.spans.now
