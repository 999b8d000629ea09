use Rattle.subst.specs.Table.{marked}
use Rattle.subst.proofs.Calls.{marks_call}
use Rattle.subst.proofs.updates.+updates.Goals as goal

pub calls_updates-returns-else-comes_to_updates : goal.calls_updates-returns-else-comes_to_updates
calls_updates-returns-else-comes_to_updates t c =
    marks_call (marked c.args.bodies.now) c.args.expr.now c.in-Call.name c.in-Call.at c.in-Call.span c.deref-else-comes_to_updates.result.now c.deref.result.now c.comes_to_updates.result c.any_calls_updates.result
    c.in-Call.is c.deref.ensures c.deref-else-comes_to_updates.ensures.value c.comes_to_updates.ensures c.if-comes_to_updates.false c.any_calls_updates.ensures
