use Rattle.std.proofs.Common.{length}
use Rattle.rules.proofs.nests.covering.+span_at.Given as goal

abbrev pub decreases-span_at : goal.decreases-span_at
decreases-span_at l = length l.coordinates.now
