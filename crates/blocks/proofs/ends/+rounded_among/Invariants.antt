use Rattle.std.proofs.Common.{length}
use Rattle.blocks.proofs.ends.+rounded_among.Given as goal

abbrev pub decreases-rounded_among : goal.decreases-rounded_among
decreases-rounded_among l = length l.cuts.now
