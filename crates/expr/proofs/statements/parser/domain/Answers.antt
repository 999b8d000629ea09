use Rattle.expr.proofs.Marked.{close, join, name_placed}
use Rattle.expr.proofs.statements.parser.domain.Goals as goal

pub returns-clause-stands : goal.returns-clause-stands
returns-clause-stands c text h =
    let variable = c.in_ok-variable.ensures.stands text h in
    let low = c.in_ok-low.ensures.kept text variable.0 in
    let dots = c.in_ok-rest.ensures.kept text low in
    (c.in_ok-high.ensures.kept text dots, variable.1)

pub returns-clause-placed : goal.returns-clause-placed
returns-clause-placed c =
    let v = c.in_ok-variable.ensures in
    let variable = name_placed c.args.tokens.now c.in_ok-variable.rest.now c.in_ok-variable.variable v.read v.at v.rest in
    join (close (join variable c.in_ok-low.ensures.placed) c.in_ok-rest.ensures.placed) c.in_ok-high.ensures.placed
