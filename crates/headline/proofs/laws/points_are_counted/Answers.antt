use Rattle.headline.proofs.Parts.{points_counted}
use Rattle.headline.proofs.laws.points_are_counted.Goals as goal

pub returns : goal.returns
returns c = points_counted
