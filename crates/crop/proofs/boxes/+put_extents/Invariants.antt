use Rattle.std.proofs.Common.{length}
use Rattle.crop.proofs.boxes.+put_extents.Given as goal

abbrev pub decreases-put_extents : goal.decreases-put_extents
decreases-put_extents l = length l.stretches.now
