use Rattle.headline.proofs.Apart.{cells_apart}
use Rattle.headline.proofs.laws.cells_are_apart.Goals as goal

pub returns : goal.returns
returns c = cells_apart
