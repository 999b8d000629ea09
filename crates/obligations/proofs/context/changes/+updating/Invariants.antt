use Rattle.std.proofs.Common.{◌≡◌}
use Rattle.plan.specs.Plan.{block}
use Rattle.plan.specs.Lists.{list_statements}
use Rattle.soundness.specs.Claims.{block_updates}
use Rattle.soundness.specs.Outline.View.{outline_in}
use Rattle.obligations.proofs.Blocks.{from}
use Rattle.obligations.proofs.context.changes.+updating.Given as goal

abbrev pub invariant-all_only_update-loop-stmt : goal.invariant-all_only_update-loop-stmt
invariant-all_only_update-loop-stmt l =
    block_updates (outline_in l.outlined).setting (block (list_statements l.all)) l.buffer l.function ≡ block_updates (outline_in l.outlined).setting (from l.all l.stmt-index) l.buffer l.function
