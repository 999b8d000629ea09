use Rattle.std.proofs.Common.{length}
use Rattle.interpreter.proofs.buffers.raster.+place_count.Given as goal

abbrev pub decreases-place_count : goal.decreases-place_count
decreases-place_count l = length l.rooms.now
