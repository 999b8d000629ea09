use Rattle.std.proofs.Common.{sym, ◌∙◌}
use Rattle.report.proofs.Places.{group_here}
use Rattle.report.proofs.costs.is_stored.Goals as goal

pub returns-then-has_function : goal.returns-then-has_function
returns-then-has_function c =
    group_here c.args.function.now c.args.groups.now c.loop-group.group-index c.group-item.result _ c.loop-group-test.true c.group-item.is
    c.loop-group.invariant (sym c.has_function.ensures ∙ c.if-has_function.true)
