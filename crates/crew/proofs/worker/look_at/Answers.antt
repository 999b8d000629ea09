use Rattle.std.proofs.Common.{sym, subst, arith}
use Rattle.std.specs.Prelude.{slice_index}
use Rattle.board.specs.Seats.{IsKnownCell, Place}
use Rattle.crew.proofs.worker.look_at.Goals as goal

pub look-requires-clause-cell : goal.look-requires-clause-cell
look-requires-clause-cell g c =
    subst (λ (s : Place). IsKnownCell g.J.Run.layout s.view (slice_index c.args.cells.now c.loop-cell.cell-index)) (sym c.loop-cell.invariant.seat)
    (c.requires.known c.loop-cell.cell-index (omega (arith, c.loop-cell-test.true)))
