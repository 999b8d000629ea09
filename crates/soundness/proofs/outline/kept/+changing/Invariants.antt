use Rattle.std.proofs.Common.{◌≡◌, drop}
use Rattle.plan.specs.Plan.{block}
use Rattle.plan.specs.Lists.{list_statements}
use Rattle.soundness.specs.Claims.{block_changes}
use Rattle.soundness.proofs.outline.kept.+changing.Given as goal

abbrev pub invariant-some_change-loop-stmt : goal.invariant-some_change-loop-stmt
invariant-some_change-loop-stmt l = block_changes (block (list_statements (drop l.stmt-index l.all))) l.buffer ≡ block_changes (block (list_statements l.all)) l.buffer
