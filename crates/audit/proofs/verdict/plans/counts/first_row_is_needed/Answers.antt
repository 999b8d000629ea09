use Rattle.audit.proofs.OfVerdict.OfPlans.Altered.{first_row}
use Rattle.audit.proofs.verdict.plans.counts.first_row_is_needed.Goals as goal

pub returns : goal.returns
returns c = first_row
