use Rattle.audit.proofs.OfVerdict.Shared.{plans_shared}
use Rattle.audit.proofs.verdict.clear.plans_are_shared.Goals as goal

pub returns : goal.returns
returns c = plans_shared
