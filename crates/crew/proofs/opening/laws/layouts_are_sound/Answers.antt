use Rattle.crew.proofs.Layouts.{layouts_sound}
use Rattle.crew.proofs.opening.laws.layouts_are_sound.Goals as goal

pub returns : goal.returns
returns c = layouts_sound c.works_are_sound.ensures
