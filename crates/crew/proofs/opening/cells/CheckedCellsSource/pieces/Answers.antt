use Rattle.std.proofs.Common.{[], sym, ◌∙◌}
use Rattle.crew.proofs.Layouts.{own_work}
use Rattle.crew.proofs.opening.cells.CheckedCellsSource.pieces.Goals as goal

pub returns-clause-count : goal.returns-clause-count
returns-clause-count c = c.pieces.ensures.work [] ∙ sym (own_work c.args.self.now.checked.now []).pieces
