use Rattle.expr.proofs.Marked.{left_out}
use Rattle.expr.proofs.statements.parser.expect.Goals as goal

pub returns-in-Some-clause-placed : goal.returns-in-Some-clause-placed
returns-in-Some-clause-placed c = left_out 1 c.args.tokens.now c.in-Some.rest.now c.in-Some.ensures.rest
