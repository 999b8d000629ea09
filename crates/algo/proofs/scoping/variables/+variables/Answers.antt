use Rattle.std.proofs.Common.{ap, sym, refl, ◌∙◌}
use Rattle.std.specs.Option.{option_map}
use Rattle.algo.specs.Scoping.Standing.{refused_variable, first_refused, placed_variables, list_variables}
use Rattle.algo.proofs.Rows.{placed_variables-call}
use Rattle.algo.proofs.Standing.{found_at, passed_at}
use Rattle.algo.proofs.scoping.variables.+variables.Goals as goal

pub in_expr-returns-in-Call : goal.in_expr-returns-in-Call
in_expr-returns-in-Call g t c =
    let test = g.T.VariableTest.accepted c.args.test.now in
    c.in_all.ensures
    ∙ ap (λ l. option_map (λ p. p.1) (first_refused test (list_variables l))) c.deref.ensures.value
    ∙ ap (λ l. option_map (λ p. p.1) (first_refused test l)) (sym (placed_variables-call c.in-Call.name c.in-Call.at c.in-Call.span))
    ∙ ap (refused_variable test) (sym c.in-Call.is)

pub in_all-returns-then-is_some : goal.in_all-returns-then-is_some
in_all-returns-then-is_some g t c =
    found_at (λ p. p.1) (g.T.VariableTest.accepted c.args.test.now) placed_variables list_variables (λ a rest. refl) c.args.at.now c.loop-index.index-index c.index-item.result c.in_expr-found.result
    c.loop-index-test.true c.index-item.is c.in_expr-found.ensures (sym c.is_some.ensures ∙ c.if-is_some.true) c.loop-index.invariant

pub in_all-loop-index-preserved : goal.in_all-loop-index-preserved
in_all-loop-index-preserved g t c =
    passed_at (λ p. p.1) (g.T.VariableTest.accepted c.args.test.now) placed_variables list_variables (λ a rest. refl) c.args.at.now c.loop-index.index-index c.index-item.result c.in_expr-found.result
    c.loop-index-test.true c.index-item.is c.in_expr-found.ensures (sym c.is_some.ensures ∙ c.if-is_some.false) c.loop-index.invariant
