use Rattle.rules.proofs.Suited.{rules_suited}
use Rattle.rules.proofs.bounding.laws.rules_are_suited.Goals as goal

pub returns : goal.returns
returns c = rules_suited
