use Rattle.std.proofs.Common.{length}
use Rattle.blocks.proofs.legality.+product.Given as goal

abbrev pub decreases-product : goal.decreases-product
decreases-product l = length l.counts.now
