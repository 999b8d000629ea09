use Rattle.completeness.proofs.InnerHeads.{heads}
use Rattle.completeness.proofs.inside.heads_stand.Goals as goal

pub returns : goal.returns
returns c = heads
