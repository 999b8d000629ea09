use Rattle.std.proofs.Common.{◌≡◌, take, map}
use Rattle.plan.specs.Lists.{list_groups}
use Rattle.plan.proofs.copying.copy_groups.Given as goal

abbrev pub invariant-loop-group : goal.invariant-loop-group
invariant-loop-group l = list_groups l.copied.items ≡ list_groups (take l.group-index l.groups)
