use Rattle.audit.proofs.OfVerdict.HistPlan.{hist_accepted}
use Rattle.audit.proofs.verdict.examples.hist_is_accepted.Goals as goal

pub returns : goal.returns
returns c = hist_accepted
