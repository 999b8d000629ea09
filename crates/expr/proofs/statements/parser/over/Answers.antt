use Rattle.expr.proofs.Standing.{after_kept}
use Rattle.expr.proofs.Marked.{close, left_out, skip}
use Rattle.expr.proofs.statements.parser.over.Goals as goal

pub returns-in_ok-rest-in-Some-2-clause-stands : goal.returns-in_ok-rest-in-Some-2-clause-stands
returns-in_ok-rest-in-Some-2-clause-stands c text h =
    let start = c.in_ok-rest-in-Some.ensures.kept text (after_kept text c.args.tokens.now c.in-Some.rest.now c.in-Some.ensures.rest h) in
    let found = c.in_ok-found-in-Some.ensures.stands text start in
    (c.in_ok-rest-in-Some-2.ensures.kept text found.0, found.1)

pub returns-in_ok-rest-in-Some-2-clause-placed : goal.returns-in_ok-rest-in-Some-2-clause-placed
returns-in_ok-rest-in-Some-2-clause-placed c =
    let word = left_out 1 c.args.tokens.now c.in-Some.rest.now c.in-Some.ensures.rest in
    close (skip word (skip c.in_ok-rest-in-Some.ensures.placed c.in_ok-found-in-Some.ensures.placed)) c.in_ok-rest-in-Some-2.ensures.placed
