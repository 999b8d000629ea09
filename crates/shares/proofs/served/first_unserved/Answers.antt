use Rattle.std.proofs.Common.{◌+◌, length, arith}
use Rattle.orders.specs.Faults.{IsFirstUnparted}
use Rattle.orders.specs.Lists.{own_lists}
use Rattle.shares.proofs.Taking.{parted_earlier}
use Rattle.shares.proofs.served.first_unserved.Goals as goal

pub returns-in-Err : goal.returns-in-Err
returns-in-Err c =
    let own = own_lists c.args.pieces.now in
    let first : IsFirstUnparted (length c.args.pieces.now) c.args.cells own c.in-Err.piece = rw c.in-Err.is at c.in_ok-owners.ensures.fault in
    let less = first.0 in
    absurd (first.2 (parted_earlier own (length c.args.pieces.now) c.args.cells (c.in-Err.piece + 1) (omega (arith, less)) c.requires.parted))
