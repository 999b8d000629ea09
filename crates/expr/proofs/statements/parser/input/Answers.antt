use Rattle.expr.proofs.Marked.{close, join, name_placed, skip, type_placed}
use Rattle.expr.proofs.statements.parser.input.Goals as goal

pub returns-clause-stands : goal.returns-clause-stands
returns-clause-stands c text h =
    let name = c.in_ok-name.ensures.stands text (c.in_ok-rest.ensures.kept text h) in
    let extents = c.in_ok-extents.ensures.kept text (c.in_ok-ty.ensures.kept text name.0) in
    (c.in_ok-rest-2.ensures.kept text extents, name.1)

pub returns-clause-placed : goal.returns-clause-placed
returns-clause-placed c =
    let n = c.in_ok-name.ensures in
    let t = c.in_ok-ty.ensures in
    let name = name_placed c.in_ok-rest.rest.now c.in_ok-name.rest.now c.in_ok-name.name n.read n.at n.rest in
    let ty = type_placed c.in_ok-name.rest.now c.in_ok-ty.rest.now c.in_ok-ty.ty c.in_ok-ty.ty_span t.read t.at t.rest in
    let named = join (skip c.in_ok-rest.ensures.placed name) ty in
    close (join named c.in_ok-extents.ensures.placed) c.in_ok-rest-2.ensures.placed
