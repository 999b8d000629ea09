use Rattle.audit.proofs.OfVerdict.OfPlans.Altered.{columns_first}
use Rattle.audit.proofs.verdict.plans.counts.columns_come_first.Goals as goal

pub returns : goal.returns
returns c = columns_first
