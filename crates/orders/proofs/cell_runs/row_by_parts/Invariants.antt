use Rattle.std.proofs.Common.{◌≡◌, ◌≤◌, ◌-◌, length, take}
use Rattle.std.specs.Prelude.{slice_index}
use Rattle.std.specs.List.{range_with_len}
use Rattle.orders.proofs.cell_runs.row_by_parts.Given as goal

abbrev pub invariant-loop-known : goal.invariant-loop-known
invariant-loop-known l = (l.known ≤ length l.cells) × (take l.known l.cells ≡ range_with_len (slice_index l.cells 0) l.known)

abbrev pub decreases-loop-known : goal.decreases-loop-known
decreases-loop-known l = length l.cells - l.known
