use Rattle.tails.proofs.Computed.{cuts_are_nested}
use Rattle.tails.proofs.worked.cuts_are_nested.Goals as goal

pub returns : goal.returns
returns c = cuts_are_nested
