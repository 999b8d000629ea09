use Rattle.std.proofs.Common.{[], sym, ◌∙◌, arith}
use Rattle.board.specs.Layout.{own_of, pieces_of}
use Rattle.crew.specs.Opening.Layouts.{layout_of}
use Rattle.crew.proofs.Most.{all_lists, one_list_more}
use Rattle.crew.proofs.counts.most_own.Goals as goal

pub loop-piece-preserved : goal.loop-piece-preserved
loop-piece-preserved c =
    let x = c.args.checked.now in
    one_list_more (own_of (layout_of x)) c.loop-piece.piece c.loop-piece.most c.at_least-most.result c.own.result.now
    c.loop-piece.invariant ((c.own_is_of_work.ensures x []).own c.loop-piece.piece ∙ sym (c.own.ensures [])) c.at_least-most.ensures.most (omega (arith, c.at_least-most.ensures.cells, c.len.ensures.count))

pub returns : goal.returns
returns c =
    let x = c.args.checked.now in
    all_lists (own_of (layout_of x)) c.loop-piece.piece (pieces_of (layout_of x)) c.pieces-piece-end.result c.loop-piece.most
    ((c.own_is_of_work.ensures x []).pieces ∙ sym (c.pieces-piece-end.ensures.work [])) c.loop-piece-test.false c.loop-piece.invariant
