use Rattle.orders.specs.Lists.{own_lists}
use Rattle.orders.specs.Claimed.{IsClaimed}
use Rattle.orders.proofs.owners.claim_piece.Given as goal

abbrev pub invariant-loop-place : goal.invariant-loop-place
invariant-loop-place l = IsClaimed (own_lists l.pieces) l.owners l.piece l.place
