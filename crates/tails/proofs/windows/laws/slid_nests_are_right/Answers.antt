use Rattle.tails.proofs.OfWindows.Beside.{slid_nests_right}
use Rattle.tails.proofs.windows.laws.slid_nests_are_right.Goals as goal

pub returns : goal.returns
returns c = slid_nests_right c.split_nests_are_right.ensures
