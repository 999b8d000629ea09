use Rattle.crew.proofs.Works.{works_sound}
use Rattle.crew.proofs.opening.laws.works_are_sound.Goals as goal

pub returns : goal.returns
returns c = works_sound
