use Rattle.completeness.proofs.AllocShown.{shown}
use Rattle.completeness.proofs.owed.alloc_lines_owe_shown.Goals as goal

pub returns : goal.returns
returns c = shown
