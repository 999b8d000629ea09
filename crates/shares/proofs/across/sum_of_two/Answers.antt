use Rattle.std.proofs.Common.{pos}
use Rattle.lin.proofs.Limits.{combined-means}
use Rattle.shares.proofs.across.sum_of_two.Goals as goal

pub returns-in-Ok-clause-limits : goal.returns-in-Ok-clause-limits
returns-in-Ok-clause-limits c = (combined-means c.args.first.now (pos 1) c.args.second.now c.in-Ok.sum c.in-Ok.ensures.ok).within
