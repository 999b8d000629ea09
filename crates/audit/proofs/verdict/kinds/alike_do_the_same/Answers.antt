use Rattle.audit.proofs.OfVerdict.OfKinds.{alike_do_the_same}
use Rattle.audit.proofs.verdict.kinds.alike_do_the_same.Goals as goal

pub returns : goal.returns
returns c = alike_do_the_same
