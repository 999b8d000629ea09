use Rattle.crew.proofs.Samples.{runs_give}
use Rattle.crew.proofs.opening.laws.runs_give_values.Goals as goal

pub returns : goal.returns
returns c = runs_give c.works_are_sound.ensures
