use Rattle.completeness.proofs.FetchLines.{known}
use Rattle.completeness.proofs.laws.fetch_lines_are_known.Goals as goal

pub returns : goal.returns
returns c = known
