use Rattle.std.proofs.Common.{◌≡◌, drop}
use Rattle.std.specs.List.{list_any}
use Rattle.plan.specs.Lists.{list_groups}
use Rattle.report.specs.Memory.{has_function}
use Rattle.report.proofs.costs.is_stored.Given as goal

abbrev pub invariant-loop-group : goal.invariant-loop-group
invariant-loop-group l = list_any (has_function l.function) (list_groups l.groups) ≡ list_any (has_function l.function) (list_groups (drop l.group-index l.groups))
