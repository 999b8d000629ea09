use Rattle.std.proofs.Common.{◌≡◌, refl, length, arith}
use Rattle.std.proofs.lemmas.List.Elements.{All-more}
use Rattle.orders.specs.Claimed.{HasMarkedOwner}
use Rattle.orders.proofs.Marking.{all_taken}
use Rattle.orders.proofs.needs.are_marked.Goals as goal

pub loop-cell-preserved : goal.loop-cell-preserved
loop-cell-preserved c = All-more (λ cell. HasMarkedOwner c.args.owners.now c.args.marks.now c.args.piece cell) c.args.cells.now c.loop-cell.cell-index 0 c.loop-cell-test.true c.loop-cell.invariant (c.if-not-is_marked.ensures.0 refl)

pub returns : goal.returns
returns c =
    let end : c.loop-cell.cell-index ≡ length c.args.cells.now = omega (arith, c.loop-cell-test.false, c.loop-cell.auto.cell-index-end) in
    ((λ t. all_taken (λ cell. HasMarkedOwner c.args.owners.now c.args.marks.now c.args.piece cell) c.args.cells.now c.loop-cell.cell-index end c.loop-cell.invariant), (λ h. refl))
