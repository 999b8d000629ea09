use Rattle.lower.proofs.Holding.{needs_hold_calls}
use Rattle.lower.proofs.laws.needs_hold_calls.Goals as goal

pub returns : goal.returns
returns c = needs_hold_calls
