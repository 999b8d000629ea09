use Rattle.tails.proofs.OfWindows.Turns.{windows_are_right}
use Rattle.tails.proofs.windows.laws.windows_are_right.Goals as goal

pub returns : goal.returns
returns c = windows_are_right
