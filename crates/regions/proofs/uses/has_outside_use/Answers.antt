use Rattle.std.proofs.Common.{map}
use Rattle.sched.specs.Stored.{stored_of}
use Rattle.regions.proofs.Insides.{told_decides}
use Rattle.regions.proofs.uses.has_outside_use.Goals as goal

pub returns-clause-decides : goal.returns-clause-decides
returns-clause-decides c = told_decides (map stored_of c.args.stored.now) (stored_of c.args.one.now) c.is_used_outside.result c.is_used_outside.ensures
