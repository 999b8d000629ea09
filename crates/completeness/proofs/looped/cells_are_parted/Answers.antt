use Rattle.completeness.proofs.LoopedOwned.{cells_parted}
use Rattle.completeness.proofs.looped.cells_are_parted.Goals as goal

pub returns : goal.returns
returns c = cells_parted
