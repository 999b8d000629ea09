use Rattle.std.proofs.Common.{◌≡◌, ◌-◌, ◌^◌, min, take}
use Rattle.plan.specs.Lines.{groups_lines}
use Rattle.plan.specs.Lists.{list_groups}
use Rattle.plan.proofs.lines.line_count_of_groups.Given as goal

abbrev pub invariant-loop-group : goal.invariant-loop-group
invariant-loop-group l = l.count ≡ min (groups_lines (list_groups (take l.group-index l.groups))) (2 ^ 32 - 1)
