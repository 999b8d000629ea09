use Rattle.audit.proofs.OfVerdict.OfPlans.Altered.{not_wider}
use Rattle.audit.proofs.verdict.plans.counts.claims_are_not_wider.Goals as goal

pub returns : goal.returns
returns c = not_wider
