use Rattle.std.proofs.Common.{take}
use Rattle.std.specs.Prelude.{All}
use Rattle.orders.specs.Claimed.{HasMarkedOwner}
use Rattle.orders.proofs.needs.are_marked.Given as goal

abbrev pub invariant-loop-cell : goal.invariant-loop-cell
invariant-loop-cell l = All (λ cell. HasMarkedOwner l.owners l.marks l.piece cell) (take l.cell-index l.cells)
