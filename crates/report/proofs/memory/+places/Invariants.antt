use Rattle.std.proofs.Common.{◌≡◌, take}
use Rattle.plan.specs.Plan.{block}
use Rattle.plan.specs.Lists.{list_statements}
use Rattle.report.specs.Costs.{capped}
use Rattle.report.specs.Memory.{block_buffers, places_of}
use Rattle.report.proofs.memory.+places.Given as goal

abbrev pub invariant-places_in_block-loop-stmt : goal.invariant-places_in_block-loop-stmt
invariant-places_in_block-loop-stmt l = l.count ≡ capped (places_of l.function (block_buffers (block (list_statements (take l.stmt-index l.all)))))
