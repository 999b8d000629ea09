use Rattle.algo.proofs.Expressions.{typed_is_expression}
use Rattle.algo.proofs.scoping.laws.typed_is_expression.Goals as goal

pub returns : goal.returns
returns c = typed_is_expression
