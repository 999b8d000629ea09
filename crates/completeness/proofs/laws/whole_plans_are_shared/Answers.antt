use Rattle.completeness.proofs.Shared.{shared}
use Rattle.completeness.proofs.laws.whole_plans_are_shared.Goals as goal

pub returns : goal.returns
returns c = shared
