use Rattle.audit.proofs.OfVerdict.OfFolds.Small.{small_forms_rise}
use Rattle.audit.proofs.verdict.folds.small_forms_rise.Goals as goal

pub returns : goal.returns
returns c = small_forms_rise
