use Rattle.std.proofs.Common.{◌≡◌, ◌≤◌, ◌++◌, drop, length, map}
use Rattle.std.specs.Prelude.{◌↔◌}
use Rattle.plan.specs.View.{plan_of}
use Rattle.plan.specs.Certificate.Cells.{grid_symbols}
use Rattle.headline.specs.Numbers.{cell_number}
use Rattle.shares.specs.Layout.{AllCells}
use Rattle.shares.specs.Noted.{lines_noted}
use Rattle.shares.specs.Read.{lines_cells}
use Rattle.shares.proofs.fetched.fetch_lines.Given as goal

abbrev pub invariant-loop-line : goal.invariant-loop-line
invariant-loop-line l = record {
  cells : l.fetched.items ++ map (cell_number (plan_of l.layout.plan.now)) (lines_cells (grid_symbols l.at) (drop l.line-index (lines_noted l.lines)))
      ≡ l.initial.fetched.items ++ map (cell_number (plan_of l.layout.plan.now)) (lines_cells (grid_symbols l.at) (lines_noted l.lines));
  known : AllCells (plan_of l.layout.plan.now) (lines_cells (grid_symbols l.at) (drop l.line-index (lines_noted l.lines))) ↔ AllCells (plan_of l.layout.plan.now) (lines_cells (grid_symbols l.at) (lines_noted l.lines));
  few : length l.fetched.items ≤ l.room;
}
