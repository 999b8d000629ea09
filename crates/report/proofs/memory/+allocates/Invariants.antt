use Rattle.std.proofs.Common.{◌≡◌}
use Rattle.plan.specs.Plan.{block}
use Rattle.plan.specs.Lists.{list_statements}
use Rattle.report.specs.Memory.{block_buffers}
use Rattle.report.proofs.Places.{from, some_of}
use Rattle.report.proofs.memory.+allocates.Given as goal

abbrev pub invariant-block_allocates-loop-stmt : goal.invariant-block_allocates-loop-stmt
invariant-block_allocates-loop-stmt l = some_of l.function (block_buffers (block (list_statements l.all))) ≡ some_of l.function (block_buffers (from l.all l.stmt-index))
