use Rattle.headline.proofs.Places.{pieces_numbered}
use Rattle.headline.proofs.laws.pieces_are_numbered.Goals as goal

pub returns : goal.returns
returns c = pieces_numbered
