use Rattle.std.proofs.Common.{◌≡◌, drop}
use Rattle.plan.specs.Plan.{block}
use Rattle.plan.specs.Lists.{list_statements}
use Rattle.soundness.specs.Nests.Nest.{block_nest}
use Rattle.rules.proofs.nests.lines.+nesting.Given as goal

abbrev pub invariant-line_in_block-loop-k : goal.invariant-line_in_block-loop-k
invariant-line_in_block-loop-k l = block_nest (block (list_statements (drop l.k l.all))) l.buffer ≡ block_nest (block (list_statements l.all)) l.buffer
