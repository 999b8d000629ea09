use Rattle.std.proofs.Common.{◌≤◌}
use Rattle.crew.specs.Stages.{IsStage}
use Rattle.crew.proofs.stages.stage_end.Given as goal

abbrev pub invariant-loop-to : goal.invariant-loop-to
invariant-loop-to g l = record { most : l.to ≤ l.count; stage : IsStage (g.P.PrivateRuns.plan l.runs) l.from l.to }
