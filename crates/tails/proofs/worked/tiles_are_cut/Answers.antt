use Rattle.tails.proofs.Computed.{tiles_are_cut}
use Rattle.tails.proofs.worked.tiles_are_cut.Goals as goal

pub returns : goal.returns
returns c = tiles_are_cut
