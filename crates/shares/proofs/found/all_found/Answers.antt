use Rattle.std.proofs.Common.{◌≡◌, ℕ, length, arith, subst}
use Rattle.orders.specs.Work.{NeedsServe}
use Rattle.orders.specs.Lists.{own_lists, fetched_lists, needs_lists}
use Rattle.shares.proofs.found.all_found.Goals as goal

pub returns : goal.returns
returns c t =
    let pieces = c.args.pieces.now in
    let end : c.loop-piece.piece ≡ length pieces = omega (arith, c.loop-piece-test.false, c.loop-piece.auto.piece-end) in
    subst (λ (n : ℕ). NeedsServe n (own_lists pieces) (fetched_lists pieces) (needs_lists pieces)) end c.loop-piece.invariant
