use Rattle.std.proofs.Common.{◌≡◌, ℕ, ◌+◌, take, []}
use Rattle.plan.specs.Lines.{block_lines}
use Rattle.plan.specs.Lists.{list_statements}
use Rattle.plan.specs.Plan.{block}
use Rattle.rules.specs.Widths.Widths.{block_store_lines, told}
use Rattle.rules.proofs.widths.storing.+storing.Given as goal

abbrev pub invariant-first_store_of_all-loop-stmt : goal.invariant-first_store_of_all-loop-stmt
invariant-first_store_of_all-loop-stmt l = (n : ℕ) → l.line ≡ told n →
    (l.next ≡ told (n + block_lines (block (list_statements (take l.stmt-index l.all)))))
    × (block_store_lines n (block (list_statements (take l.stmt-index l.all))) ≡ [])
