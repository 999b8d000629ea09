use Rattle.lower.proofs.Shown.{own_holds}
use Rattle.lower.proofs.laws.regions_hold_own_calls.Goals as goal

pub returns : goal.returns
returns c = own_holds
