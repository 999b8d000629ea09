use Rattle.audit.proofs.OfVerdict.OfFolds.Plans.{raised_have_the_same}
use Rattle.audit.proofs.verdict.folds.raised_have_the_same.Goals as goal

pub returns : goal.returns
returns c = raised_have_the_same
