use Rattle.std.proofs.Common.{length}
use Rattle.blocks.proofs.legality.+is_in_region.Given as goal

abbrev pub decreases-is_in_region : goal.decreases-is_in_region
decreases-is_in_region l = length l.at.now
