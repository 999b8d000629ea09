use Rattle.std.proofs.Common.{sym, ap, ◌∙◌}
use Rattle.std.specs.List.{list_any}
use Rattle.sched.proofs.Placings.{root_told}
use Rattle.sched.proofs.placing.has_root.Goals as goal

pub returns : goal.returns
returns c = rw (root_told c.args.sched.now.functions.items c.args.name.now, sym c.deref.ensures.value) c.any_root.ensures
