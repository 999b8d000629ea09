use Rattle.lower.proofs.Fetched.{fetches_hold}
use Rattle.lower.proofs.laws.fetches_hold_calls.Goals as goal

pub returns : goal.returns
returns c = fetches_hold
