use Rattle.completeness.proofs.StoreLaw.{store_lines_owed}
use Rattle.completeness.proofs.filled.store_lines_owe_shown.Goals as goal

pub returns : goal.returns
returns c = store_lines_owed
