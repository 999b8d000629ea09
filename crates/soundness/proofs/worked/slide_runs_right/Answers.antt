use Rattle.soundness.proofs.Runs.{slide_runs}
use Rattle.soundness.proofs.worked.slide_runs_right.Goals as goal

pub returns : goal.returns
returns c = slide_runs
