use Rattle.completeness.proofs.Lined.{lined}
use Rattle.completeness.proofs.laws.own_lines_stand.Goals as goal

pub returns : goal.returns
returns c = lined
