use Rattle.std.proofs.Common.{[]}
use Rattle.crew.proofs.opening.cells.CheckedCellsSource.cells.Goals as goal

pub returns : goal.returns
returns c = c.cells.ensures []
