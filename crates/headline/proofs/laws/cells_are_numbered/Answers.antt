use Rattle.headline.proofs.Places.{cells_numbered}
use Rattle.headline.proofs.laws.cells_are_numbered.Goals as goal

pub returns : goal.returns
returns c = cells_numbered
