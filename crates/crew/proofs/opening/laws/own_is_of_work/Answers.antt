use Rattle.crew.proofs.Layouts.{own_work}
use Rattle.crew.proofs.opening.laws.own_is_of_work.Goals as goal

pub returns : goal.returns
returns c = own_work
