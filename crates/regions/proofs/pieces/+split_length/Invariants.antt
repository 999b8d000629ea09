use Rattle.std.proofs.Common.{length}
use Rattle.regions.proofs.pieces.+split_length.Given as goal

abbrev pub decreases-split_length : goal.decreases-split_length
decreases-split_length l = length l.cuts.now
