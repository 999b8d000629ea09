use Rattle.std.proofs.Common.{◌≡◌, ◌-◌, ◌^◌, min, map}
use Rattle.std.specs.List.{range_with_len}
use Rattle.plan.specs.View.{group_of}
use Rattle.plan.specs.Certificate.Cells.{first_cell}
use Rattle.checked_plan.specs.Output.Cells.{cells_of_group, counted}
use Rattle.checked_plan.proofs.output.plan_cells.cells_of.Given as goal

abbrev pub invariant-loop-group : goal.invariant-loop-group
invariant-loop-group l =
    (l.first ≡ min (first_cell (map group_of l.groups) l.group-index) (2 ^ 32 - 1))
    × (map counted l.cells.items ≡ map (cells_of_group (map group_of l.groups)) (range_with_len 0 l.group-index))
