use Rattle.std.proofs.Common.{length}
use Rattle.tails.proofs.updates.+forms_are_outer.Given as goal

abbrev pub decreases-forms_are_outer : goal.decreases-forms_are_outer
decreases-forms_are_outer l = length l.forms.now
