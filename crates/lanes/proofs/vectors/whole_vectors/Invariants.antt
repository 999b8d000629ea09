use Rattle.std.proofs.Common.{◌-◌, ◌≤◌, length}
use Rattle.lanes.specs.Applied.{AppliesBelow}
use Rattle.lanes.proofs.vectors.whole_vectors.Given as goal

abbrev pub invariant-loop-out : goal.invariant-loop-out
invariant-loop-out g l = record { room : l.at ≤ length l.out; done : AppliesBelow l.at g.O.Operator.value g.O.Operator.op l.a l.b l.out }

abbrev pub decreases-loop-out : goal.decreases-loop-out
decreases-loop-out g l = length l.initial.out - l.at
