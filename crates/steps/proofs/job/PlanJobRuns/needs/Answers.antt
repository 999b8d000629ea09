use Rattle.algo.specs.View.{samples_of}
use Rattle.steps.proofs.Accepted.{listed}
use Rattle.steps.proofs.job.PlanJobRuns.needs.Goals as goal

pub needs-requires : goal.needs-requires
needs-requires c = listed c.args.self.now.checked.now c.args.self.now.inputs.now c.args.piece c.requires

pub returns : goal.returns
returns c = c.needs.ensures (samples_of c.args.self.now.inputs.now)
