use Rattle.piece.proofs.Runs.{narrow}
use Rattle.piece.proofs.laws.pieces_are_narrow.Goals as goal

pub returns : goal.returns
returns c = narrow
