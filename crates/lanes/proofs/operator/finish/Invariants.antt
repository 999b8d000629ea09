use Rattle.lanes.specs.Applied.{AppliesBelow}
use Rattle.lanes.proofs.operator.finish.Given as goal

abbrev pub invariant-loop-i : goal.invariant-loop-i
invariant-loop-i g l = AppliesBelow l.i g.O.Operator.value g.O.Operator.op l.a l.b l.out
