use Rattle.std.proofs.Common.{length}
use Rattle.regions.proofs.turns.+is_named_among.Given as goal

abbrev pub decreases-is_named_among : goal.decreases-is_named_among
decreases-is_named_among l = length l.variables.now
