use Rattle.algo.proofs.Broken.{file_breaks}
use Rattle.algo.proofs.laws.told_faults_break_conditions.Goals as goal

pub returns : goal.returns
returns c = file_breaks
