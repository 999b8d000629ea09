use Rattle.completeness.proofs.SmallStores.{stores_small}
use Rattle.completeness.proofs.said.stores_are_small.Goals as goal

pub returns : goal.returns
returns c = stores_small
