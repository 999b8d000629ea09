use Rattle.std.proofs.Common.{arith, ◌≤◌, get_or, ◌-◌}
use Rattle.shares.proofs.Finding.{in_run}
use Rattle.shares.proofs.found.length_in.Goals as goal

pub returns-clause-same : goal.returns-clause-same
returns-clause-same c =
    let run = c.args.run.now in
    let cells = c.args.cells.now in
    let len = c.run_length.result in
    let n = c.min.result in
    in_run run.first run.count cells len n c.run_length.ensures.run c.run_length.ensures.within (omega (arith, c.min.ensures)) c.if-cells-run.false (omega (arith, c.min.ensures))
