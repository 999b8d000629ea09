use Rattle.expr.proofs.Marked.{close, join, name_placed, type_placed}
use Rattle.expr.proofs.statements.parser.function.Goals as goal

pub returns-clause-stands : goal.returns-clause-stands
returns-clause-stands c text h =
    let name = c.in_ok-name.ensures.stands text h in
    let variables = c.in_ok-variables.ensures.stands text (c.in_ok-rest.ensures.kept text (c.in_ok-ty.ensures.kept text name.0)) in
    (c.in_ok-value.ensures.kept text (c.in_ok-rest-2.ensures.kept text variables.0), (name.1, variables.1))

pub returns-clause-placed : goal.returns-clause-placed
returns-clause-placed c =
    let n = c.in_ok-name.ensures in
    let t = c.in_ok-ty.ensures in
    let name = name_placed c.args.tokens.now c.in_ok-name.rest.now c.in_ok-name.name n.read n.at n.rest in
    let ty = type_placed c.in_ok-name.rest.now c.in_ok-ty.rest.now c.in_ok-ty.ty c.in_ok-ty.ty_span t.read t.at t.rest in
    let named = close (join name ty) c.in_ok-rest.ensures.placed in
    join (close (join named c.in_ok-variables.ensures.placed) c.in_ok-rest-2.ensures.placed) c.in_ok-value.ensures.placed
