use Rattle.expr.proofs.Marked.{close, skip}
use Rattle.expr.proofs.statements.parser.right_side.Goals as goal

pub returns-clause-kept : goal.returns-clause-kept
returns-clause-kept c text h = c.in_ok-rest-2.ensures.kept text (c.in_ok-value.ensures.kept text (c.in_ok-rest.ensures.kept text h))

pub returns-clause-placed : goal.returns-clause-placed
returns-clause-placed c = close (skip c.in_ok-rest.ensures.placed c.in_ok-value.ensures.placed) c.in_ok-rest-2.ensures.placed
