use Rattle.audit.proofs.Heads.{no_group, some_group}
use Rattle.audit.proofs.names.some_group_is_of.Goals as goal

pub returns-clause-none : goal.returns-clause-none
returns-clause-none c isnt = no_group c.args.plan.now.groups.items c.args.output.now cc

pub returns-clause-some : goal.returns-clause-some
returns-clause-some c is = some_group c.args.plan.now.groups.items c.args.output.now cc
