use Rattle.soundness.proofs.Whole.{whole}
use Rattle.soundness.proofs.laws.private_runs_are_right.Goals as goal

pub returns : goal.returns
returns c = whole
