use Rattle.std.proofs.Common.{◌≡◌}
use Rattle.plan.specs.Plan.{block}
use Rattle.plan.specs.Lists.{list_statements}
use Rattle.plan.specs.Semantics.Setting.{block_allocated}
use Rattle.report.specs.Subject.{named}
use Rattle.report.proofs.Places.{from}
use Rattle.report.proofs.subject.+allocated.Given as goal

abbrev pub invariant-function_in_block-loop-stmt : goal.invariant-function_in_block-loop-stmt
invariant-function_in_block-loop-stmt l = named (block_allocated (block (list_statements l.all)) l.buffer) ≡ named (block_allocated (from l.all l.stmt-index) l.buffer)
