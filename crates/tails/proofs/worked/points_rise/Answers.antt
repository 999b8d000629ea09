use Rattle.tails.proofs.Computed.{points_rise}
use Rattle.tails.proofs.worked.points_rise.Goals as goal

pub returns : goal.returns
returns c = points_rise
