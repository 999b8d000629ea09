use Rattle.std.proofs.Common.{◌≡◌, ◌-◌, ◌^◌, min, take}
use Rattle.plan.specs.Lines.{block_lines}
use Rattle.plan.specs.Plan.{block}
use Rattle.plan.specs.Lists.{list_statements}
use Rattle.plan.proofs.+line_count.Given as goal

abbrev pub invariant-lines::line_count_of_all-loop-stmt : goal.invariant-lines::line_count_of_all-loop-stmt
invariant-lines::line_count_of_all-loop-stmt l = l.count ≡ min (block_lines (block (list_statements (take l.stmt-index l.all)))) (2 ^ 32 - 1)
