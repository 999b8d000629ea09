use Rattle.audit.proofs.OfVerdict.OfOwed.{shown_stays}
use Rattle.audit.proofs.verdict.kinds.shown_stays.Goals as goal

pub returns : goal.returns
returns c = shown_stays
