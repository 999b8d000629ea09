use Rattle.std.proofs.Common.{◌<◌, arith}
use Rattle.board.specs.Layout.{pieces_of}
use Rattle.crew.proofs.InOrder.{one_piece_more}
use Rattle.crew.proofs.alone.fill_all.Goals as goal

pub fill-requires-clause-needed : goal.fill-requires-clause-needed
fill-requires-clause-needed g c j there =
    let inside : c.loop-piece.piece < pieces_of g.J.Run.layout = omega (arith, c.loop-piece-test.true, c.pieces-count.ensures.count) in
    let earlier = c.requires.pieces.0.0.needs c.loop-piece.piece inside j there in
    (omega (arith, earlier, inside), c.loop-piece.invariant.before j earlier)

pub loop-piece-preserved : goal.loop-piece-preserved
loop-piece-preserved g c = record {
  before = one_piece_more g.J.Run.layout g.J.Run.values c.loop-piece.sheet c.fill.new.sheet c.loop-piece.piece c.loop-piece.invariant.before c.fill.ensures.more c.fill.ensures.put;
  desk = record { scratch = c.fill.ensures.scratch; room = c.fill.ensures.room };
}

pub returns : goal.returns
returns g c j lt = c.loop-piece.invariant.before j (omega (arith, lt, c.loop-piece-test.false, c.pieces-count.ensures.count))
