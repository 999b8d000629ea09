use Rattle.headline.proofs.Parts.{needs_one}
use Rattle.headline.proofs.laws.needs_are_one_list.Goals as goal

pub returns : goal.returns
returns c = needs_one
