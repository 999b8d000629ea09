-- What a board is told of a checked plan, and the values that its cells get on an input.
use Rattle.std.specs.Prelude.{List, map, length, ℤ}
use Rattle.algo.specs.declared.inputs.Inputs.{Inputs}
use Rattle.algo.specs.Parts.{output_frame}
use Rattle.algo.specs.View.{samples_of}
use Rattle.plan.specs.Certificate.Cells.{cells, pieces}
use Rattle.headline.specs.Numbers.{cell_number}
use Rattle.headline.specs.Work.{own_cells, cell_value}
use Rattle.checked_plan.specs.declared.checked.Checked.{Checked}
use Rattle.checked_plan.specs.View.{algorithm_checked, plan_checked, certificate_checked}
use Rattle.checked_plan.specs.Output.Cells.{number_of_point}
use Rattle.board.specs.Layout.{Layout}

-- the numbers of the cells that each piece owns, how many cells there are, and the picture with the cell of each point
abbrev pub layout_of : Checked → Layout
layout_of x = record {
  own = map (λ j. map (cell_number (plan_checked x)) (own_cells (plan_checked x) (certificate_checked x) j)) (pieces (plan_checked x));
  cells = length (cells (plan_checked x));
  frame = output_frame (algorithm_checked x);
  cell_of = number_of_point (algorithm_checked x) (plan_checked x);
}

-- the algorithm's value of each cell, in the order of their numbers
abbrev pub values_of : Checked → Inputs → List ℤ
values_of x i = map (λ c. (cell_value (algorithm_checked x) (plan_checked x) (samples_of i) c).number) (cells (plan_checked x))
