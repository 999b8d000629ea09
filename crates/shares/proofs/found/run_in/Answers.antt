use Rattle.std.proofs.Common.{ℕ, List, ◌<◌, take, length, arith, refl, subst}
use Rattle.std.specs.Prelude.{All, Contains}
use Rattle.orders.specs.declared.cell_runs.CellRun.{CellRun}
use Rattle.shares.proofs.Finding.{of_run}
use Rattle.shares.proofs.found.run_in.Goals as goal

pub returns-in-Some-clause-same : goal.returns-in-Some-clause-same
returns-in-Some-clause-same c =
    let runs = c.runs-runs.result.now in
    let place = c.in-Some.place in
    let d : CellRun = record { first = 0; count = 0; before = 0 } in
    let within : place < length runs = (let e = c.in-Some.ensures in omega (arith, e.0, e.1, c.partition_point-behind.ensures.bound)) in
    let cells = take c.length_in.result c.args.cells.now in
    subst (λ (own : List ℕ). All (λ cell. Contains own cell) cells) c.runs-runs.ensures.cells (of_run runs place d within cells c.length_in.ensures.same)
