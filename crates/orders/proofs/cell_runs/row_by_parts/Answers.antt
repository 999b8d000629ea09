use Rattle.std.proofs.Common.{◌+◌, ◌≤◌, length, get_or, arith}
use Rattle.std.proofs.lemmas.Bool.{OnTrue_at}
use Rattle.orders.proofs.RunLists.{row_join}
use Rattle.orders.proofs.cell_runs.row_by_parts.Goals as goal

pub loop-known-preserved : goal.loop-known-preserved
loop-known-preserved c =
    let cells = c.args.cells.now in
    let known = c.loop-known.known in
    let within : known + 32 ≤ length cells = omega (arith, c.loop-known-test.true, c.loop-known.invariant.0) in
    (within, row_join cells (get_or cells 0 0) known (known + 32) (omega arith) within c.loop-known.invariant.1 (OnTrue_at c.if-not-is_row.false c.is_row.ensures))
