-- The work that a checked plan is on an input.
use Rattle.std.specs.Prelude.{ℕ, ℤ}
use Rattle.algo.specs.declared.inputs.Inputs.{Inputs}
use Rattle.algo.specs.View.{samples_of}
use Rattle.checked_plan.specs.declared.checked.Checked.{Checked}
use Rattle.checked_plan.specs.View.{algorithm_checked, plan_checked, certificate_checked}
use Rattle.orders.specs.Work.{Work}
use Rattle.headline.specs.Work.{target, work_of}

abbrev pub work_on : Checked → Inputs → Work
work_on x i = work_of (algorithm_checked x) (plan_checked x) (certificate_checked x) (samples_of i)

-- the right value of each cell
abbrev pub targets_on : Checked → Inputs → ℕ → ℤ
targets_on x i = target (algorithm_checked x) (plan_checked x) (samples_of i)
