use Rattle.audit.proofs.OfVerdict.OfPlans.Altered.{last_row}
use Rattle.audit.proofs.verdict.plans.counts.last_row_is_needed.Goals as goal

pub returns : goal.returns
returns c = last_row
