use Rattle.std.proofs.Common.{◌≡◌, ◌+◌, length, sym, subst, arith}
use Rattle.orders.specs.declared.cell_runs.CellRun.{CellRun}
use Rattle.orders.specs.CellRuns.{AreCounted, cells_of}
use Rattle.orders.proofs.RunLists.{pushed_counted}
use Rattle.orders.proofs.cell_runs.push_run.Goals as goal

pub returns-clause-counted : goal.returns-clause-counted
returns-clause-counted c =
    let r : CellRun = record { first = c.args.first; count = c.args.count; before = c.args.before } in
    let is : c.args.before ≡ 0 + length (cells_of c.args.runs.now.items) = (let e = c.requires.before in omega (arith, e)) in
    subst (AreCounted 0) (sym c.in_ok-push.ensures.items) (pushed_counted 0 c.args.runs.now.items r is c.requires.counted)
