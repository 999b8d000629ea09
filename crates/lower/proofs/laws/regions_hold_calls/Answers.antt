use Rattle.lower.proofs.Reached.{regions_hold}
use Rattle.lower.proofs.laws.regions_hold_calls.Goals as goal

pub returns : goal.returns
returns c = regions_hold
