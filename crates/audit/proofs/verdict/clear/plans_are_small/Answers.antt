use Rattle.audit.proofs.OfVerdict.Small.{plans_small}
use Rattle.audit.proofs.verdict.clear.plans_are_small.Goals as goal

pub returns : goal.returns
returns c = plans_small
