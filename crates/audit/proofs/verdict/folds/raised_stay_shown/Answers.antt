use Rattle.audit.proofs.OfVerdict.OfFolds.Plans.{raised_stay_shown}
use Rattle.audit.proofs.verdict.folds.raised_stay_shown.Goals as goal

pub returns : goal.returns
returns c = raised_stay_shown
