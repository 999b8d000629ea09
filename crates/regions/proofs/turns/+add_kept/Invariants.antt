use Rattle.std.proofs.Common.{length}
use Rattle.regions.proofs.turns.+add_kept.Given as goal

abbrev pub decreases-add_kept : goal.decreases-add_kept
decreases-add_kept l = length l.cuts.now
