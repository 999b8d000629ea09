use Rattle.std.proofs.Common.{◌-◌, ◌≤◌, length}
use Rattle.crew.specs.Stages.{AreDesks}
use Rattle.crew.proofs.stages.desks_for.Given as goal

abbrev pub invariant-loop-alloc : goal.invariant-loop-alloc
invariant-loop-alloc g l = record { most : length l.desks.items ≤ l.count; ready : AreDesks g.J.Run.layout (g.P.PrivateRuns.plan l.runs) (g.P.PrivateRuns.suffices l.runs) l.desks.items }

abbrev pub decreases-loop-alloc : goal.decreases-loop-alloc
decreases-loop-alloc g l = l.count - length l.desks.items
