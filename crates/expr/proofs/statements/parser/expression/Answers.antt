use Rattle.expr.proofs.Marked.{expression_kept, expression_placed}
use Rattle.expr.proofs.statements.parser.expression.Goals as goal

pub returns-in-Ok-clause-kept : goal.returns-in-Ok-clause-kept
returns-in-Ok-clause-kept c text h = expression_kept text c.in-Ok.found c.args.tokens.now c.in-Ok.rest.now c.in-Ok.ensures.placed h

pub returns-in-Ok-clause-placed : goal.returns-in-Ok-clause-placed
returns-in-Ok-clause-placed c = expression_placed c.in-Ok.found c.args.tokens.now c.in-Ok.rest.now c.in-Ok.ensures.placed
