use Rattle.audit.proofs.OfVerdict.OfAlike.{alike_are_accepted}
use Rattle.audit.proofs.verdict.kinds.alike_are_accepted.Goals as goal

pub returns : goal.returns
returns c = alike_are_accepted
