use Rattle.std.proofs.Common.{length, ◌-◌}
use Rattle.shares.proofs.straight.+row_from.Given as goal

abbrev pub decreases-row_from : goal.decreases-row_from
decreases-row_from l = length l.region.now - l.place
