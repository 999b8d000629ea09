use Rattle.std.proofs.Common.{◌≡◌, drop}
use Rattle.plan.specs.Plan.{block}
use Rattle.plan.specs.Lists.{list_statements}
use Rattle.validation.specs.Stored.Definitions.{block_allots}
use Rattle.validation.proofs.stored.defined.+allots.Given as goal

abbrev pub invariant-any_allots-loop-stmt : goal.invariant-any_allots-loop-stmt
invariant-any_allots-loop-stmt l = block_allots l.name (block (list_statements (drop l.stmt-index l.all))) ≡ block_allots l.name (block (list_statements l.all))
