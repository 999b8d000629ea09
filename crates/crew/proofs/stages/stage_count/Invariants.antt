use Rattle.std.proofs.Common.{◌-◌, ◌≤◌}
use Rattle.crew.proofs.stages.stage_count.Given as goal

abbrev pub invariant-loop-from : goal.invariant-loop-from
invariant-loop-from g l = record { most : l.stages ≤ l.from; end : l.from ≤ l.count }

abbrev pub decreases-loop-from : goal.decreases-loop-from
decreases-loop-from g l = l.count - l.from
