use Rattle.std.proofs.Common.{length}
use Rattle.regions.proofs.uses.+has_loop.Given as goal

abbrev pub decreases-has_loop : goal.decreases-has_loop
decreases-has_loop l = length l.loops.now
