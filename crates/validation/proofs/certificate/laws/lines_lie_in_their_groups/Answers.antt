use Rattle.validation.proofs.GroupLines.{placed}
use Rattle.validation.proofs.certificate.laws.lines_lie_in_their_groups.Goals as goal

pub returns : goal.returns
returns c = placed
