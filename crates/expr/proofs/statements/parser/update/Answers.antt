use Rattle.expr.proofs.Marked.{close, join, name_placed, skip}
use Rattle.expr.proofs.statements.parser.update.Goals as goal

pub returns-clause-stands : goal.returns-clause-stands
returns-clause-stands c text h =
    let name = c.in_ok-name.ensures.stands text h in
    let domains = c.in_ok-domains.ensures.stands text name.0 in
    let at = c.in_ok-at.ensures.kept text (c.in_ok-rest.ensures.kept text domains.0) in
    (c.in_ok-value.ensures.kept text (c.in_ok-rest-2.ensures.kept text at), (name.1, domains.1))

pub returns-clause-placed : goal.returns-clause-placed
returns-clause-placed c =
    let indices = close (skip c.in_ok-rest.ensures.placed c.in_ok-at.ensures.placed) c.in_ok-rest-2.ensures.placed in
    let n = c.in_ok-name.ensures in
    let name = name_placed c.args.tokens.now c.in_ok-name.rest.now c.in_ok-name.name n.read n.at n.rest in
    join (join (join name c.in_ok-domains.ensures.placed) indices) c.in_ok-value.ensures.placed
