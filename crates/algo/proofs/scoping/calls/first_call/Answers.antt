use Rattle.std.proofs.Common.{subst, sym, IsNone, IsTrue}
use Rattle.std.specs.Prelude.{IfSome, ◌↔◌}
use Rattle.tree.specs.Term.{term_of}
use Rattle.tree.specs.Uses.{EachCall}
use Rattle.algo.specs.Scoping.Standing.{RefusedCallAt}
use Rattle.algo.proofs.Answers.{call-none, call-some}
use Rattle.algo.proofs.scoping.calls.first_call.Goals as goal

pub returns-clause-none : goal.returns-clause-none
returns-clause-none g c =
    let test = g.T.CallTest.accepted c.args.test.now in
    subst (λ r. IsNone r ↔ EachCall (λ name at. IsTrue (test name at)) (term_of c.args.expr.now)) (sym c.in_expr.ensures) (call-none test c.args.expr.now)

pub returns-clause-some : goal.returns-clause-some
returns-clause-some g c =
    let test = g.T.CallTest.accepted c.args.test.now in
    subst (λ r. IfSome r (RefusedCallAt test c.args.expr.now)) (sym c.in_expr.ensures) (call-some test c.args.expr.now)
