-- What costs in memory say.
use Rattle.std.specs.Prelude.{ℕ, List, map, string_bytes}
use Rattle.checked_plan.specs.declared.checked.Checked.{Checked}
use Rattle.checked_plan.specs.View.{algorithm_checked, certificate_checked, plan_checked}
use Rattle.report.specs.declared.costs.FunctionCost.{FunctionCost}
use Rattle.report.specs.declared.costs.Costs.{Costs}
use Rattle.report.specs.Costs.{all_stores, rows, Row}

abbrev pub row_of : FunctionCost → Row
row_of x = record { name = string_bytes x.name; stores = x.stores; private = x.private; fetched = x.fetched; pieces = x.pieces }

abbrev pub rows_of : Costs → List Row
rows_of x = map row_of x.functions.items

-- how many stores the pieces of a checked plan make, of all functions together
abbrev pub checked_stores : Checked → ℕ
checked_stores x = all_stores (rows (algorithm_checked x) (plan_checked x) (certificate_checked x))
