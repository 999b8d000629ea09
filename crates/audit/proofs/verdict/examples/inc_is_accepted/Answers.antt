use Rattle.audit.proofs.OfVerdict.Inc.{inc_accepted}
use Rattle.audit.proofs.verdict.examples.inc_is_accepted.Goals as goal

pub returns : goal.returns
returns c = inc_accepted
