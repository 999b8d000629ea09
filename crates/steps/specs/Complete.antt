-- When all cells of a checked plan hold what they have to.
use Rattle.std.specs.Prelude.{◌≡◌, ℕ, ◌<◌, Some}
use Rattle.algo.specs.declared.inputs.Inputs.{Inputs}
use Rattle.algo.specs.View.{samples_of}
use Rattle.checked_plan.specs.declared.checked.Checked.{Checked}
use Rattle.checked_plan.specs.View.{algorithm_checked, plan_checked}
use Rattle.orders.specs.Crew.{Table, cell_at}
use Rattle.headline.specs.Work.{target}
use Rattle.steps.specs.Work.{work_on}

-- each cell of the plan holds its right value on the input
abbrev pub IsComplete : Checked → Inputs → Table → Type 0
IsComplete x i table = (cell : ℕ) → cell < (work_on x i).cells → cell_at table cell ≡ Some (target (algorithm_checked x) (plan_checked x) (samples_of i) cell)
