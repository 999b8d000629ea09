use Rattle.std.proofs.Common.{◌≡◌, ◌++◌, map, take, string_bytes}
use Rattle.std.specs.Prelude.{flat_map}
use Rattle.report.specs.Table.{heading, row_line}
use Rattle.report.specs.View.{row_of}
use Rattle.report.proofs.table.text.Given as goal

abbrev pub invariant-loop-cost : goal.invariant-loop-cost
invariant-loop-cost l = string_bytes l.table ≡ heading ++ flat_map row_line (map row_of (take l.cost-index l.costs.functions.items))
