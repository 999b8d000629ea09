use Rattle.expr.proofs.Marked.{close, join, name_placed, skip}
use Rattle.expr.proofs.statements.parser.output.Goals as goal

pub returns-clause-stands : goal.returns-clause-stands
returns-clause-stands c text h =
    let name = c.in_ok-name.ensures.stands text (c.in_ok-rest.ensures.kept text h) in
    (c.in_ok-rest-2.ensures.kept text (c.in_ok-extents.ensures.kept text name.0), name.1)

pub returns-clause-placed : goal.returns-clause-placed
returns-clause-placed c =
    let n = c.in_ok-name.ensures in
    let named = skip c.in_ok-rest.ensures.placed (name_placed c.in_ok-rest.rest.now c.in_ok-name.rest.now c.in_ok-name.name n.read n.at n.rest) in
    close (join named c.in_ok-extents.ensures.placed) c.in_ok-rest-2.ensures.placed
