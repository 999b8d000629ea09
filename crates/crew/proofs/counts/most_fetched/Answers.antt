use Rattle.std.proofs.Common.{[], sym, ◌∙◌, length, arith, subst, List, ℕ, ◌≤◌}
use Rattle.board.specs.Layout.{pieces_of}
use Rattle.crew.specs.Private.{fetched_of}
use Rattle.crew.specs.Opening.Layouts.{layout_of}
use Rattle.crew.proofs.Most.{all_lists, one_list_more}
use Rattle.crew.proofs.counts.most_fetched.Goals as goal

pub loop-piece-preserved : goal.loop-piece-preserved
loop-piece-preserved c =
    let x = c.args.checked.now in
    let had = c.loop-piece.invariant in
    let is = c.fetched.ensures [] in
    record {
      most = one_list_more (fetched_of x) c.loop-piece.piece c.loop-piece.most c.at_least-most.result c.fetched.result.now
          had.most (sym is) c.at_least-most.ensures.most c.at_least-most.ensures.cells;
      least = λ n all. c.at_least-most.ensures.least n
          (had.least n (λ j lt. all j (omega (arith, lt))))
          (subst (λ (xs : List ℕ). length xs ≤ n) (sym is) (all c.loop-piece.piece (omega arith)));
    }

pub returns-clause-most : goal.returns-clause-most
returns-clause-most c =
    let x = c.args.checked.now in
    all_lists (fetched_of x) c.loop-piece.piece (pieces_of (layout_of x)) c.pieces-piece-end.result c.loop-piece.most
    ((c.own_is_of_work.ensures x []).pieces ∙ sym (c.pieces-piece-end.ensures.work [])) c.loop-piece-test.false c.loop-piece.invariant.most

pub returns-clause-least : goal.returns-clause-least
returns-clause-least c = λ n all.
    let x = c.args.checked.now in
    let count = (c.own_is_of_work.ensures x []).pieces ∙ sym (c.pieces-piece-end.ensures.work []) in
    let end = c.loop-piece.auto.piece-end in
    c.loop-piece.invariant.least n (λ j lt. all j (omega (arith, lt, count, end)))
