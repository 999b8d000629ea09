use Rattle.std.proofs.Common.{length, ◌-◌}
use Rattle.shares.proofs.walked.+shared_from.Given as goal

abbrev pub decreases-shared_from : goal.decreases-shared_from
decreases-shared_from l = length l.own.now - l.place
