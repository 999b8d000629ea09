use Rattle.std.proofs.Common.{◌≡◌}
use Rattle.plan.specs.Plan.{block}
use Rattle.plan.specs.Lists.{list_statements}
use Rattle.soundness.specs.Claims.{block_writes}
use Rattle.soundness.specs.Outline.View.{outline_in}
use Rattle.obligations.proofs.Blocks.{from}
use Rattle.obligations.proofs.context.changes.+writing.Given as goal

abbrev pub invariant-all_only_write-loop-stmt : goal.invariant-all_only_write-loop-stmt
invariant-all_only_write-loop-stmt l =
    block_writes (outline_in l.outlined).setting (block (list_statements l.all)) l.buffer l.function ≡ block_writes (outline_in l.outlined).setting (from l.all l.stmt-index) l.buffer l.function
