use Rattle.std.proofs.Common.{length}
use Rattle.tails.proofs.stored.+forms_of.Given as goal

abbrev pub decreases-forms_of : goal.decreases-forms_of
decreases-forms_of l = length l.coordinates.now
