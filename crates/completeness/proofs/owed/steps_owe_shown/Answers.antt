use Rattle.completeness.proofs.StepsShown.{shown}
use Rattle.completeness.proofs.owed.steps_owe_shown.Goals as goal

pub returns : goal.returns
returns c = shown
