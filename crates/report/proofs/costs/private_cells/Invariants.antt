use Rattle.std.proofs.Common.{◌≡◌, take}
use Rattle.std.specs.Prelude.{flat_map}
use Rattle.plan.specs.Lists.{list_groups}
use Rattle.report.specs.Costs.{capped}
use Rattle.report.specs.Memory.{group_buffers, places_of}
use Rattle.report.proofs.costs.private_cells.Given as goal

abbrev pub invariant-loop-group : goal.invariant-loop-group
invariant-loop-group l = l.count ≡ capped (places_of l.function (flat_map group_buffers (list_groups (take l.group-index l.plan.groups.items))))
