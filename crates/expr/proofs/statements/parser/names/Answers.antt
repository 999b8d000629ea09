use Rattle.std.proofs.lemmas.Result.{IfOk-weaker}
use Rattle.expr.specs.Statements.Standing.{StandsAt}
use Rattle.expr.proofs.Standing.{one_found}
use Rattle.std.proofs.Common.{subst, sym}
use Rattle.expr.specs.Statements.Marks.{StandIn, named_marks}
use Rattle.expr.proofs.Marked.{marks_one, name_placed}
use Rattle.expr.proofs.statements.parser.names.Goals as goal

pub returns-clause-stands : goal.returns-clause-stands
returns-clause-stands c =
    IfOk-weaker c.more_names.result _ _ (λ r more text h.
    let first = c.in_ok-first.ensures.stands text h in
    more text first.0 (one_found (StandsAt text) c.push.new.self.items c.new-found.result.items c.in_ok-first.first c.new-found.ensures.items c.in_ok-push.ensures.items first.1)) c.more_names.ensures.stands

pub returns-clause-placed : goal.returns-clause-placed
returns-clause-placed c =
    let one = marks_one named_marks c.new-found.result.items c.push.new.self.items c.in_ok-first.first c.new-found.ensures.items c.in_ok-push.ensures.items in
    let first = subst (λ ms. StandIn ms c.args.tokens.now c.in_ok-first.rest.now) (sym one) (name_placed c.args.tokens.now c.in_ok-first.rest.now c.in_ok-first.first c.in_ok-first.ensures.read c.in_ok-first.ensures.at c.in_ok-first.ensures.rest) in
    IfOk-weaker c.more_names.result _ _ (λ r more. more c.args.tokens.now first) c.more_names.ensures.placed
