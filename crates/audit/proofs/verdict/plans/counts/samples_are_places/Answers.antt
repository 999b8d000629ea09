use Rattle.audit.proofs.OfVerdict.OfPlans.Altered.{are_places}
use Rattle.audit.proofs.verdict.plans.counts.samples_are_places.Goals as goal

pub returns : goal.returns
returns c = are_places
