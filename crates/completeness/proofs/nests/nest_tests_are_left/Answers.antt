use Rattle.completeness.proofs.ClaimedNests.{left}
use Rattle.completeness.proofs.nests.nest_tests_are_left.Goals as goal

pub returns : goal.returns
returns c = left
