use Rattle.algo.specs.View.{samples_of}
use Rattle.steps.proofs.Accepted.{listed}
use Rattle.steps.proofs.job.PlanJobRuns.own.Goals as goal

pub own-requires : goal.own-requires
own-requires c = listed c.args.self.now.checked.now c.args.self.now.inputs.now c.args.piece c.requires

pub returns : goal.returns
returns c = c.own.ensures (samples_of c.args.self.now.inputs.now)
