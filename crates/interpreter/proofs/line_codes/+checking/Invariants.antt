use Rattle.plan.specs.Plan.{block}
use Rattle.plan.specs.Lists.{list_statements}
use Rattle.interpreter.specs.LineCodes.{BlockIsCoded}
use Rattle.interpreter.proofs.Running.{from}
use Rattle.interpreter.proofs.line_codes.+checking.Given as goal

abbrev pub invariant-are_all_coded-loop-stmt : goal.invariant-are_all_coded-loop-stmt
invariant-are_all_coded-loop-stmt l = BlockIsCoded l.codes (from l.all l.stmt-index) → BlockIsCoded l.codes (block (list_statements l.all))
