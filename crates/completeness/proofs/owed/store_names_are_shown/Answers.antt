use Rattle.completeness.proofs.StoreNames.{shown}
use Rattle.completeness.proofs.owed.store_names_are_shown.Goals as goal

pub returns : goal.returns
returns c = shown
