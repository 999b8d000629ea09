use Rattle.algo.specs.View.{samples_of}
use Rattle.steps.proofs.Accepted.{listed}
use Rattle.steps.proofs.job.PlanJobRuns.fetched.Goals as goal

pub fetched-requires : goal.fetched-requires
fetched-requires c = listed c.args.self.now.checked.now c.args.self.now.inputs.now c.args.piece c.requires

pub returns : goal.returns
returns c = c.fetched.ensures (samples_of c.args.self.now.inputs.now)
