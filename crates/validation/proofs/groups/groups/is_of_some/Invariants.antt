use Rattle.std.proofs.Common.{◌≡◌, drop}
use Rattle.std.specs.List.{list_any}
use Rattle.meaning.specs.Names.{same_name}
use Rattle.plan.specs.Lists.{list_groups}
use Rattle.validation.proofs.groups.groups.is_of_some.Given as goal

abbrev pub invariant-loop-group : goal.invariant-loop-group
invariant-loop-group l = list_any (λ h. same_name h.function l.name) (list_groups (drop l.group-index l.groups)) ≡ list_any (λ h. same_name h.function l.name) (list_groups l.groups)
