use Rattle.std.proofs.Common.{length}
use Rattle.regions.proofs.turns.+has_short_half.Given as goal

abbrev pub decreases-has_short_half : goal.decreases-has_short_half
decreases-has_short_half l = length l.cuts.now
