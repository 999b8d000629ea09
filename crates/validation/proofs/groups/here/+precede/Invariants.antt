use Rattle.std.proofs.Common.{◌≡◌, drop}
use Rattle.plan.specs.Plan.{block}
use Rattle.plan.specs.Lists.{list_statements}
use Rattle.validation.specs.Groups.Lines.{may_all_precede}
use Rattle.validation.proofs.groups.here.+precede.Given as goal

abbrev pub invariant-may_all_precede-loop-stmt : goal.invariant-may_all_precede-loop-stmt
invariant-may_all_precede-loop-stmt l = may_all_precede (block (list_statements (drop l.stmt-index l.all))) ≡ may_all_precede (block (list_statements l.all))
