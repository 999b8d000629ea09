use Rattle.headline.proofs.Apart.{looks_by_number}
use Rattle.headline.proofs.laws.looks_are_by_number.Goals as goal

pub returns : goal.returns
returns c = looks_by_number
