use Rattle.std.proofs.Common.{◌≡◌, ◌+◌, ℕ, sym, subst, refl, length, ◌∙◌, ap, arith}
use Rattle.orders.specs.Work.{OwnIsParted}
use Rattle.orders.specs.Lists.{own_lists}
use Rattle.orders.specs.Claimed.{IsClaimed}
use Rattle.orders.proofs.Claiming.{claimed_parted}
use Rattle.orders.proofs.owners.owners_of.Goals as goal

pub returns-then-not-claim_piece-clause-fault : goal.returns-then-not-claim_piece-clause-fault
returns-then-not-claim_piece-clause-fault c =
    let own = own_lists c.args.pieces.now in
    let P : ℕ → Type 0 = λ cells. OwnIsParted (c.loop-piece.piece + 1) cells own in
    let long : length c.as_mut_slice.result.now ≡ c.args.cells = ap length c.as_mut_slice.ensures.value ∙ c.loop-piece.invariant.1 in (
      c.loop-piece-test.true,
      claimed_parted own c.loop-piece.owners.items c.loop-piece.piece c.args.cells c.loop-piece.invariant.0 c.loop-piece.invariant.1,
      (λ parted. c.if-not-claim_piece.ensures.fault refl (subst P (sym long) parted)),
    )

pub returns-clause-claimed : goal.returns-clause-claimed
returns-clause-claimed c =
    let P : ℕ → Type 0 = λ n. IsClaimed (own_lists c.args.pieces.now) c.loop-piece.owners.items n 0 in
    let end : c.loop-piece.piece ≡ length c.args.pieces.now = omega (arith, c.loop-piece-test.false, c.loop-piece.auto.piece-end) in
    subst P end c.loop-piece.invariant.0

pub returns-clause-parted : goal.returns-clause-parted
returns-clause-parted c =
    let own = own_lists c.args.pieces.now in
    let P : ℕ → Type 0 = λ n. OwnIsParted n c.args.cells own in
    let end : c.loop-piece.piece ≡ length c.args.pieces.now = omega (arith, c.loop-piece-test.false, c.loop-piece.auto.piece-end) in
    subst P end (claimed_parted own c.loop-piece.owners.items c.loop-piece.piece c.args.cells c.loop-piece.invariant.0 c.loop-piece.invariant.1)
