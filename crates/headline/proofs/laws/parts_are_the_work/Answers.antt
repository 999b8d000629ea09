use Rattle.headline.proofs.Parts.{parts_are}
use Rattle.headline.proofs.laws.parts_are_the_work.Goals as goal

pub returns : goal.returns
returns c = parts_are
