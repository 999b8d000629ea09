use Rattle.completeness.proofs.Shared.{heads}
use Rattle.completeness.proofs.laws.heads_do_not_fail.Goals as goal

pub returns : goal.returns
returns c = heads
