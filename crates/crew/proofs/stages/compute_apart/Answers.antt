use Rattle.board.specs.CellBits.{bits_in}
use Rattle.board.specs.Layout.{own_of}
use Rattle.crew.proofs.Staged.{bits_kept}
use Rattle.crew.proofs.stages.compute_apart.Goals as goal

pub leave-requires-clause-bits : goal.leave-requires-clause-bits
leave-requires-clause-bits g c =
    bits_kept g.J.Run.layout g.J.Run.values (own_of g.J.Run.layout c.args.piece) (bits_in c.bits.result) (g.D.HasDesk.desk c.compute.new.self).scratch.state.given.items
    c.compute.ensures.values c.bits.ensures
