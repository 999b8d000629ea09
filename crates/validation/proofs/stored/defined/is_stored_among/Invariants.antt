use Rattle.std.proofs.Common.{◌≡◌, drop}
use Rattle.std.specs.List.{list_any}
use Rattle.plan.specs.Lists.{list_groups}
use Rattle.validation.specs.Stored.Definitions.{group_stores}
use Rattle.validation.proofs.stored.defined.is_stored_among.Given as goal

abbrev pub invariant-loop-group : goal.invariant-loop-group
invariant-loop-group l = list_any (group_stores l.name) (list_groups (drop l.group-index l.groups)) ≡ list_any (group_stores l.name) (list_groups l.groups)
