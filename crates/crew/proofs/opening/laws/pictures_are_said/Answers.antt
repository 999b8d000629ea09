use Rattle.crew.proofs.Samples.{pictures_said}
use Rattle.crew.proofs.opening.laws.pictures_are_said.Goals as goal

pub returns : goal.returns
returns c = pictures_said
