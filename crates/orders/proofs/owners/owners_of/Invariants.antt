use Rattle.std.proofs.Common.{◌≡◌, length}
use Rattle.orders.specs.Lists.{own_lists}
use Rattle.orders.specs.Claimed.{IsClaimed}
use Rattle.orders.proofs.owners.owners_of.Given as goal

abbrev pub invariant-loop-piece : goal.invariant-loop-piece
invariant-loop-piece l = IsClaimed (own_lists l.pieces) l.owners.items l.piece 0 × (length l.owners.items ≡ l.cells)
