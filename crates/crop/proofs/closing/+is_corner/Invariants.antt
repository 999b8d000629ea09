use Rattle.std.proofs.Common.{length}
use Rattle.crop.proofs.closing.+is_corner.Given as goal

abbrev pub decreases-is_corner : goal.decreases-is_corner
decreases-is_corner l = length l.origin.now
