use Rattle.piece.proofs.Runs.{runs}
use Rattle.piece.proofs.laws.runs_are_the_work.Goals as goal

pub returns : goal.returns
returns c = runs c.pieces_are_numbered.ensures
