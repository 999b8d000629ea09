use Rattle.tails.proofs.OfWindows.Sliding.{slid_is_meant}
use Rattle.tails.proofs.windows.laws.slid_is_meant.Goals as goal

pub returns : goal.returns
returns c = slid_is_meant
