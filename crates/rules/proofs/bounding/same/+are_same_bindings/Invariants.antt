use Rattle.std.proofs.Common.{length}
use Rattle.rules.proofs.bounding.same.+are_same_bindings.Given as goal

abbrev pub decreases-are_same_bindings : goal.decreases-are_same_bindings
decreases-are_same_bindings l = length l.first.now
