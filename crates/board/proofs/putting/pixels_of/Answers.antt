use Rattle.std.proofs.Common.{ℕ, ◌-◌, List, get_or, subst}
use Rattle.orders.specs.declared.cell_runs.CellRun.{CellRun}
use Rattle.board.specs.Kept.{AreOfPixels}
use Rattle.board.proofs.Pixels.{pixels_found}
use Rattle.board.proofs.putting.pixels_of.Goals as goal

abbrev none : CellRun
none = record { first = 0; count = 0; before = 0 }

pub returns : goal.returns
returns c =
    let runs : List CellRun = c.runs-runs.result.now in
    let one : CellRun = get_or runs 0 none in
    let second = c.if-not-is_behind.ensures in
    let third = c.if-not-is_behind-2.ensures in
    subst (λ (cells : List ℕ). AreOfPixels c.args.planes c.args.before cells (one.first - c.args.before) one.count) c.runs-runs.ensures.cells
    (pixels_found c.args.planes c.args.before runs none c.if-runs-ne3.false c.if-planes-ne3.false
    second.0 second.1 third.0 third.1 c.if-cell-before.false c.if-planes-count.false c.if-planes-count-2.false)
