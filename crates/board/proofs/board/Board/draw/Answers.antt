use Rattle.std.proofs.Common.{rules}
use Rattle.board.proofs.Parts.{parted}
use Rattle.board.proofs.Keeps.{draws}
use Rattle.board.proofs.board.Board.draw.Goals as goal

pub fetch_add-found-requires : goal.fetch_add-found-requires
fetch_add-found-requires g c =
    let seat = c.seat.invariant in
    (search rules, search rules, draws _ _ _ _ c.seat.inside.seat.me (parted _ c.self.invariant.1) seat.1 (search rules))
