use Rattle.completeness.proofs.Left.{rest_left}
use Rattle.completeness.proofs.nests.places_and_nests_are_left.Goals as goal

pub returns : goal.returns
returns c = rest_left
