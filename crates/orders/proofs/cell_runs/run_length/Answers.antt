use Rattle.std.proofs.Common.{◌≡◌, ◌+◌, get_or, arith}
use Rattle.orders.proofs.RunLists.{row_more}
use Rattle.orders.proofs.cell_runs.run_length.Goals as goal

pub loop-place-preserved : goal.loop-place-preserved
loop-place-preserved c =
    let cells = c.args.cells.now in
    let place = c.loop-place.place in
    let here : get_or cells place 0 ≡ get_or cells 0 0 + place = omega (arith, c.from.ensures, c.if-from-saturating_add.false, c.saturating_add.ensures, c.from-first.ensures, c.from.type_inv) in
    row_more cells place c.loop-place-test.true c.loop-place.invariant here
