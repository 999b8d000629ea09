use Rattle.audit.proofs.OfVerdict.Shared.{plans_drawn}
use Rattle.audit.proofs.verdict.clear.plans_are_drawn.Goals as goal

pub returns : goal.returns
returns c = plans_drawn
