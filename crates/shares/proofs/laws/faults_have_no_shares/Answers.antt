use Rattle.shares.proofs.Having.{none_shared}
use Rattle.shares.proofs.laws.faults_have_no_shares.Goals as goal

pub returns : goal.returns
returns c = none_shared
