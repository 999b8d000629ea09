use Rattle.std.proofs.lemmas.Bool.{eqb-true}
use Rattle.orders.proofs.RunLists.{row_more_if}
use Rattle.orders.proofs.cell_runs.is_row.Goals as goal

pub loop-place-preserved : goal.loop-place-preserved
loop-place-preserved c = row_more_if c.args.cells.now c.args.first c.loop-place.place _ _ c.loop-place-test.true c.loop-place.invariant (λ same. eqb-true _ _ same)
