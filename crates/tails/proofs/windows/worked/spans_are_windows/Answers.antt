use Rattle.tails.proofs.OfWindows.Computed.{spans_are_windows}
use Rattle.tails.proofs.windows.worked.spans_are_windows.Goals as goal

pub returns : goal.returns
returns c = spans_are_windows
