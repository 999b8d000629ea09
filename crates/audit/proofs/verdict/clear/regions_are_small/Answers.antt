use Rattle.audit.proofs.OfVerdict.Small.{regions_small}
use Rattle.audit.proofs.verdict.clear.regions_are_small.Goals as goal

pub returns : goal.returns
returns c = regions_small
