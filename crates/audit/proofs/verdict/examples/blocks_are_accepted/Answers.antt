use Rattle.audit.proofs.OfVerdict.BlocksPlan.{blocks_accepted}
use Rattle.audit.proofs.verdict.examples.blocks_are_accepted.Goals as goal

pub returns : goal.returns
returns c = blocks_accepted
