use Rattle.std.proofs.Common.{length}
use Rattle.report.proofs.memory.+place_count.Given as goal

abbrev pub decreases-place_count : goal.decreases-place_count
decreases-place_count l = length l.places.now
