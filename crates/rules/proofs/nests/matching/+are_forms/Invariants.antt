use Rattle.std.proofs.Common.{length}
use Rattle.rules.proofs.nests.matching.+are_forms.Given as goal

abbrev pub decreases-are_forms : goal.decreases-are_forms
decreases-are_forms l = length l.coordinates.now
