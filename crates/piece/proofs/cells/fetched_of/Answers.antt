use Rattle.std.proofs.Common.{◌≡◌, [], length, arith}
use Rattle.plan.specs.Certificate.Cells.{pieces}
use Rattle.checked_plan.specs.View.{plan_checked}
use Rattle.piece.proofs.Lookups.{none_past}
use Rattle.piece.proofs.cells.fetched_of.Goals as goal

pub returns-then-piece-pieces : goal.returns-then-piece-pieces
returns-then-piece-pieces c = c.fetched.ensures []

pub returns-else-piece-pieces : goal.returns-else-piece-pieces
returns-else-piece-pieces c =
    let all : c.pieces.result ≡ length (pieces (plan_checked c.args.checked.now)) = c.pieces.ensures.work [] in
    none_past (plan_checked c.args.checked.now) c.args.piece (omega (arith, all, c.if-piece-pieces.false))
