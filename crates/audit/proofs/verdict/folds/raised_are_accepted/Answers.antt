use Rattle.audit.proofs.OfVerdict.OfFolds.Plans.{raised_are_accepted}
use Rattle.audit.proofs.verdict.folds.raised_are_accepted.Goals as goal

pub returns : goal.returns
returns c = raised_are_accepted
