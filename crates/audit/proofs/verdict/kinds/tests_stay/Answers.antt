use Rattle.audit.proofs.OfVerdict.OfTests.{tests_stay}
use Rattle.audit.proofs.verdict.kinds.tests_stay.Goals as goal

pub returns : goal.returns
returns c = tests_stay
