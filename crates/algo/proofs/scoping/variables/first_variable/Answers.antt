use Rattle.std.proofs.Common.{subst, sym, IsNone, IsTrue, All}
use Rattle.std.specs.Prelude.{IfSome, ◌↔◌}
use Rattle.tree.specs.Term.{term_of}
use Rattle.tree.specs.Uses.{variables_of}
use Rattle.algo.specs.Scoping.Standing.{RefusedVariableAt}
use Rattle.algo.proofs.Answers.{variable-none, variable-some}
use Rattle.algo.proofs.scoping.variables.first_variable.Goals as goal

pub returns-clause-none : goal.returns-clause-none
returns-clause-none g c =
    let test = g.T.VariableTest.accepted c.args.test.now in
    subst (λ r. IsNone r ↔ All (λ name. IsTrue (test name)) (variables_of (term_of c.args.expr.now))) (sym c.in_expr.ensures) (variable-none test c.args.expr.now)

pub returns-clause-some : goal.returns-clause-some
returns-clause-some g c =
    let test = g.T.VariableTest.accepted c.args.test.now in
    subst (λ r. IfSome r (RefusedVariableAt test c.args.expr.now)) (sym c.in_expr.ensures) (variable-some test c.args.expr.now)
