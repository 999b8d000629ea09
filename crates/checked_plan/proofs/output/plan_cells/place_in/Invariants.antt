use Rattle.std.proofs.Common.{◌≡◌, ◌+◌, drop, map}
use Rattle.plan.specs.View.{group_of}
use Rattle.checked_plan.specs.Ready.Ready.{place_of_group}
use Rattle.checked_plan.proofs.output.plan_cells.place_in.Given as goal

abbrev pub invariant-loop-place : goal.invariant-loop-place
invariant-loop-place l = place_of_group (map group_of l.groups) l.function ≡ l.place + place_of_group (map group_of (drop l.place l.groups)) l.function
