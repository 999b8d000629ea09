use Rattle.std.proofs.Common.{length}
use Rattle.lower.proofs.parties.+faults_among.Given as goal

abbrev pub decreases-faults_among : goal.decreases-faults_among
decreases-faults_among l = length l.parties.now
