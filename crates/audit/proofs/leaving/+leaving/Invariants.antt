use Rattle.std.proofs.Common.{◌≡◌, drop}
use Rattle.plan.specs.Plan.{block}
use Rattle.plan.specs.Lists.{list_statements}
use Rattle.audit.specs.Verdict.Left.{all_leave}
use Rattle.audit.proofs.leaving.+leaving.Given as goal

abbrev pub invariant-leaves_all-loop-stmt : goal.invariant-leaves_all-loop-stmt
invariant-leaves_all-loop-stmt l =
    all_leave l.target.buffer l.target.coordinates (block (list_statements (drop l.stmt-index l.all))) ≡ all_leave l.target.buffer l.target.coordinates (block (list_statements l.all))
