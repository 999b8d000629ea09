use Rattle.std.proofs.Common.{◌≡◌, drop}
use Rattle.plan.specs.Plan.{block}
use Rattle.plan.specs.Lists.{list_statements}
use Rattle.headline.specs.Sound.{block_publishes}
use Rattle.validation.proofs.groups.groups.+publishes.Given as goal

abbrev pub invariant-any_publishes-loop-stmt : goal.invariant-any_publishes-loop-stmt
invariant-any_publishes-loop-stmt l = block_publishes (block (list_statements (drop l.stmt-index l.all))) ≡ block_publishes (block (list_statements l.all))
