use Rattle.std.proofs.Common.{length}
use Rattle.crop.proofs.closing.+holds_box.Given as goal

abbrev pub decreases-holds_box : goal.decreases-holds_box
decreases-holds_box l = length l.region.now
