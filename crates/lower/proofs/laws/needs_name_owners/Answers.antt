use Rattle.lower.proofs.Needed.{needs_name}
use Rattle.lower.proofs.laws.needs_name_owners.Goals as goal

pub returns : goal.returns
returns c = needs_name
