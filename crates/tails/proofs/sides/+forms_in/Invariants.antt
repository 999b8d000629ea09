use Rattle.std.proofs.Common.{length}
use Rattle.tails.proofs.sides.+forms_in.Given as goal

abbrev pub decreases-forms_in : goal.decreases-forms_in
decreases-forms_in l = length l.coordinates.now
