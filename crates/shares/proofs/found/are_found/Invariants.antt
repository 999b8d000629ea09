use Rattle.std.proofs.Common.{length, take, ◌-◌, ◌≤◌}
use Rattle.std.specs.Prelude.{All}
use Rattle.orders.specs.Lists.{own_lists}
use Rattle.shares.specs.Served.{IsOwnOf}
use Rattle.shares.proofs.found.are_found.Given as goal

abbrev pub invariant-loop-found : goal.invariant-loop-found
invariant-loop-found l = (l.found ≤ length l.cells) × All (IsOwnOf (own_lists l.pieces) l.needs) (take l.found l.cells)

abbrev pub decreases-loop-found : goal.decreases-loop-found
decreases-loop-found l = length l.cells - l.found
