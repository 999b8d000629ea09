use Rattle.std.proofs.Common.{◌≡◌, take, map}
use Rattle.plan.specs.Lists.{list_statements}
use Rattle.plan.proofs.copying.+copying.Given as goal

abbrev pub invariant-copy_block-loop-stmt : goal.invariant-copy_block-loop-stmt
invariant-copy_block-loop-stmt l = list_statements l.copied.items ≡ list_statements (take l.stmt-index l.all)
