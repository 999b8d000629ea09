use Rattle.std.proofs.Common.{subst, sym}
use Rattle.std.proofs.lemmas.Result.{IfOk-weaker}
use Rattle.expr.specs.Statements.Marks.{StandIn, expression_marks}
use Rattle.expr.proofs.Marked.{marks_one}
use Rattle.expr.proofs.statements.parser.expressions.Goals as goal

pub returns-clause-kept : goal.returns-clause-kept
returns-clause-kept c = IfOk-weaker c.more_expressions.result _ _ (λ r more text h. more text (c.in_ok-first.ensures.kept text h)) c.more_expressions.ensures.kept

pub returns-clause-placed : goal.returns-clause-placed
returns-clause-placed c =
    let one = marks_one expression_marks c.new-found.result.items c.push.new.self.items c.in_ok-first.first c.new-found.ensures.items c.in_ok-push.ensures.items in
    let first = subst (λ ms. StandIn ms c.args.tokens.now c.in_ok-first.rest.now) (sym one) c.in_ok-first.ensures.placed in
    IfOk-weaker c.more_expressions.result _ _ (λ r more. more c.args.tokens.now first) c.more_expressions.ensures.placed
