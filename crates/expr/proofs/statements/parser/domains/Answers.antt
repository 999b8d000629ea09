use Rattle.std.proofs.lemmas.Result.{IfOk-weaker}
use Rattle.expr.specs.Statements.Standing.{DomainStands}
use Rattle.expr.proofs.Standing.{one_found}
use Rattle.std.proofs.Common.{subst, sym}
use Rattle.expr.specs.Statements.Marks.{StandIn, domain_marks}
use Rattle.expr.proofs.Marked.{marks_one}
use Rattle.expr.proofs.statements.parser.domains.Goals as goal

pub returns-clause-stands : goal.returns-clause-stands
returns-clause-stands c =
    IfOk-weaker c.more_domains.result _ _ (λ r more text h.
    let first = c.in_ok-first.ensures.stands text h in
    more text first.0 (one_found (DomainStands text) c.push.new.self.items c.new-found.result.items c.in_ok-first.first c.new-found.ensures.items c.in_ok-push.ensures.items first.1)) c.more_domains.ensures.stands

pub returns-clause-placed : goal.returns-clause-placed
returns-clause-placed c =
    let one = marks_one domain_marks c.new-found.result.items c.push.new.self.items c.in_ok-first.first c.new-found.ensures.items c.in_ok-push.ensures.items in
    let first = subst (λ ms. StandIn ms c.args.tokens.now c.in_ok-first.rest.now) (sym one) c.in_ok-first.ensures.placed in
    IfOk-weaker c.more_domains.result _ _ (λ r more. more c.args.tokens.now first) c.more_domains.ensures.placed
