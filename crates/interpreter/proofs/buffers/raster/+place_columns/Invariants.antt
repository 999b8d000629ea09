use Rattle.std.proofs.Common.{length}
use Rattle.interpreter.proofs.buffers.raster.+place_columns.Given as goal

abbrev pub decreases-place_columns : goal.decreases-place_columns
decreases-place_columns l = length l.rooms.now
