use Rattle.std.proofs.Common.{sym}
use Rattle.rules.proofs.Limits.{never_seated}
use Rattle.rules.proofs.bounding.seats.is_between.Goals as goal

pub returns-in-None : goal.returns-in-None
returns-in-None c = sym (never_seated c.args.kept.now c.args.span.now c.args.origin.now c.args.count c.in-None.ensures)
