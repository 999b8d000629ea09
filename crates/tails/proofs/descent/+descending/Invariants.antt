use Rattle.std.proofs.Common.{◌≡◌}
use Rattle.plan.specs.Plan.{block}
use Rattle.plan.specs.Lists.{list_statements}
use Rattle.tails.specs.Steps.{block_spine}
use Rattle.tails.proofs.Blocks.{way_from}
use Rattle.tails.proofs.descent.+descending.Given as goal

abbrev pub invariant-spine_in_block-loop-k : goal.invariant-spine_in_block-loop-k
invariant-spine_in_block-loop-k l = way_from l.all l.k l.buffer ≡ block_spine (block (list_statements l.all)) l.buffer
