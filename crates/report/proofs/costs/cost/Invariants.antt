use Rattle.std.proofs.Common.{◌≡◌, ◌++◌, map, filter, drop}
use Rattle.algo.specs.Parts.{function_of}
use Rattle.meaning.specs.Algorithm.{Function}
use Rattle.checked_plan.specs.View.{algorithm_checked, certificate_checked, plan_checked}
use Rattle.report.specs.Costs.{is_stored, row, rows}
use Rattle.report.specs.View.{row_of}
use Rattle.report.proofs.costs.cost.Given as goal

abbrev pub invariant-loop-number : goal.invariant-loop-number
invariant-loop-number l =
    map row_of l.functions.items ++ map (row (plan_checked l.checked) (certificate_checked l.checked))
    (filter (is_stored (plan_checked l.checked)) (map (λ f. Function.name f) (map function_of (drop l.number l.all.entries))))
    ≡ rows (algorithm_checked l.checked) (plan_checked l.checked) (certificate_checked l.checked)
