use Rattle.soundness.proofs.Same.{forms_at_most_themselves}
use Rattle.soundness.proofs.nests.laws.forms_are_at_most_themselves.Goals as goal

pub returns : goal.returns
returns c = forms_at_most_themselves
