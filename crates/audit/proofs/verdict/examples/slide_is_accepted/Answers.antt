use Rattle.audit.proofs.OfVerdict.SlidePlan.{slide_accepted}
use Rattle.audit.proofs.verdict.examples.slide_is_accepted.Goals as goal

pub returns : goal.returns
returns c = slide_accepted
