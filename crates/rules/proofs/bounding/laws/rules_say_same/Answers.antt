use Rattle.rules.specs.Bounding.Scopes.{scope_of}
use Rattle.rules.proofs.bounding.laws.rules_say_same.Goals as goal

pub returns : goal.returns
returns c = λ a p d n bs f h. c.forms_are_at_most_themselves.ensures (scope_of bs) f h
