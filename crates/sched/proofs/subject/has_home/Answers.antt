use Rattle.std.proofs.Common.{sym}
use Rattle.sched.proofs.Placings.{home_told}
use Rattle.sched.proofs.subject.has_home.Goals as goal

pub returns : goal.returns
returns c = rw (home_told c.args.sched.now.functions.items c.args.name.now, sym c.deref.ensures.value) c.any_home.ensures
