use Rattle.std.proofs.Common.{length}
use Rattle.interpreter.proofs.buffers.raster.+place_by_each.Given as goal

abbrev pub decreases-place_by_each : goal.decreases-place_by_each
decreases-place_by_each l = length l.rooms.now
