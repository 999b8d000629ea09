use Rattle.std.proofs.Common.{arith}
use Rattle.std.proofs.lemmas.Bool.{OnTrue_at}
use Rattle.crew.proofs.Staged.{stage_on, stage_within}
use Rattle.crew.proofs.stages.stage_end.Goals as goal

pub loop-to-preserved : goal.loop-to-preserved
loop-to-preserved g c = record {
  most = omega (arith, c.loop-to-test.true);
  stage = stage_on (g.P.PrivateRuns.plan c.args.runs.now) c.args.from c.loop-to.to c.needs-in-loop-to.result.now
      c.loop-to.invariant.stage c.needs-in-loop-to.ensures.needs (OnTrue_at c.if-not-are_before.false c.are_before.ensures);
}

pub returns-clause-stage : goal.returns-clause-stage
returns-clause-stage g c = stage_within (g.P.PrivateRuns.plan c.args.runs.now) c.args.from c.loop-to.to c.args.count (omega (arith, c.loop-to-test.false)) c.loop-to.invariant.stage
