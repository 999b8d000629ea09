use Rattle.orders.specs.Work.{NeedsServe}
use Rattle.orders.specs.Lists.{own_lists, fetched_lists, needs_lists}
use Rattle.shares.proofs.found.all_found.Given as goal

abbrev pub invariant-loop-piece : goal.invariant-loop-piece
invariant-loop-piece l = NeedsServe l.piece (own_lists l.pieces) (fetched_lists l.pieces) (needs_lists l.pieces)
