use Rattle.tails.proofs.Computed.{ten_is_cut}
use Rattle.tails.proofs.worked.ten_is_cut.Goals as goal

pub returns : goal.returns
returns c = ten_is_cut
