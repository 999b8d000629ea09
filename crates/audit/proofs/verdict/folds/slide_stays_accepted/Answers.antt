use Rattle.audit.proofs.OfVerdict.OfFolds.SlideRaised.{slide_stays_accepted}
use Rattle.audit.proofs.verdict.folds.slide_stays_accepted.Goals as goal

pub returns : goal.returns
returns c = slide_stays_accepted
