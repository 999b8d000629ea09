use Rattle.headline.proofs.Runs.{pieces_right}
use Rattle.headline.proofs.laws.pieces_run_right.Goals as goal

pub returns : goal.returns
returns c = pieces_right
