use Rattle.std.proofs.Common.{ap, sym, refl, ◌∙◌, ◌++◌, inl, inr}
use Rattle.std.specs.Option.{option_or, option_map}
use Rattle.algo.specs.Scoping.Standing.{accepts, call_place, placed_calls, placed_calls_of_test, list_calls, refused_call, first_refused}
use Rattle.algo.proofs.Refused.{answer-two, answer-three, answer-call}
use Rattle.algo.proofs.Standing.{found_at, passed_at}
use Rattle.algo.proofs.scoping.calls.+calls.Goals as goal

pub in_all-returns-then-is_some : goal.in_all-returns-then-is_some
in_all-returns-then-is_some g t c =
    found_at call_place (accepts (g.T.CallTest.accepted c.args.test.now)) placed_calls list_calls (λ a rest. refl) c.args.at.now c.loop-index.index-index c.index-item.result c.in_expr-found.result
    c.loop-index-test.true c.index-item.is c.in_expr-found.ensures (sym c.is_some.ensures ∙ c.if-is_some.true) c.loop-index.invariant

pub in_all-loop-index-preserved : goal.in_all-loop-index-preserved
in_all-loop-index-preserved g t c =
    passed_at call_place (accepts (g.T.CallTest.accepted c.args.test.now)) placed_calls list_calls (λ a rest. refl) c.args.at.now c.loop-index.index-index c.index-item.result c.in_expr-found.result
    c.loop-index-test.true c.index-item.is c.in_expr-found.ensures (sym c.is_some.ensures ∙ c.if-is_some.false) c.loop-index.invariant

pub in_cond-returns-in-All : goal.in_cond-returns-in-All
in_cond-returns-in-All g t c =
    let test = g.T.CallTest.accepted c.args.test.now in
    c.or-in-All.ensures
    ∙ answer-two test c.in_cond-in-All.result c.in_cond-in-All-2.result (placed_calls_of_test c.deref-in-All.result.now) (placed_calls_of_test c.deref-in-All-2.result.now) c.in_cond-in-All.ensures c.in_cond-in-All-2.ensures
    ∙ (λ i. option_map call_place (first_refused (accepts test) (placed_calls_of_test (c.deref-in-All.ensures i) ++ placed_calls_of_test (c.deref-in-All-2.ensures i))))
    ∙ elim c.in-All.is [
      | inl e ↦ ap (λ d. option_map call_place (first_refused (accepts test) (placed_calls_of_test d))) (sym e.1)
      | inr e ↦ ap (λ d. option_map call_place (first_refused (accepts test) (placed_calls_of_test d))) (sym e.1)
    ]

pub in_expr-returns-in-Clamp : goal.in_expr-returns-in-Clamp
in_expr-returns-in-Clamp g t c =
    let test = g.T.CallTest.accepted c.args.test.now in
    c.or-in-Clamp-2.ensures
    ∙ ap (λ o. option_or o c.in_expr-in-Clamp-3.result) c.or-in-Clamp.ensures
    ∙ answer-three test c.in_expr-in-Clamp.result c.in_expr-in-Clamp-2.result c.in_expr-in-Clamp-3.result
    (placed_calls c.deref-in-Clamp.result.now) (placed_calls c.deref-in-Clamp-2.result.now) (placed_calls c.deref-in-Clamp-3.result.now)
    c.in_expr-in-Clamp.ensures c.in_expr-in-Clamp-2.ensures c.in_expr-in-Clamp-3.ensures
    ∙ (λ i. option_map call_place (first_refused (accepts test) (placed_calls (c.deref-in-Clamp.ensures i) ++ placed_calls (c.deref-in-Clamp-2.ensures i) ++ placed_calls (c.deref-in-Clamp-3.ensures i))))
    ∙ ap (refused_call test) (sym c.in-Clamp.is)

pub in_expr-returns-in-Select : goal.in_expr-returns-in-Select
in_expr-returns-in-Select g t c =
    let test = g.T.CallTest.accepted c.args.test.now in
    c.or-in-Select-2.ensures
    ∙ ap (λ o. option_or o c.in_expr-in-Select-2.result) c.or-in-Select.ensures
    ∙ answer-three test c.in_cond.result c.in_expr-in-Select.result c.in_expr-in-Select-2.result
    (placed_calls_of_test c.deref-in-Select.result.now) (placed_calls c.deref-in-Select-2.result.now) (placed_calls c.deref-in-Select-3.result.now)
    c.in_cond.ensures c.in_expr-in-Select.ensures c.in_expr-in-Select-2.ensures
    ∙ (λ i. option_map call_place (first_refused (accepts test) (placed_calls_of_test (c.deref-in-Select.ensures i) ++ placed_calls (c.deref-in-Select-2.ensures i) ++ placed_calls (c.deref-in-Select-3.ensures i))))
    ∙ ap (refused_call test) (sym c.in-Select.is)

pub in_expr-returns-in-Call : goal.in_expr-returns-in-Call
in_expr-returns-in-Call g t c =
    let test = g.T.CallTest.accepted c.args.test.now in
    c.or.ensures
    ∙ answer-call test c.in-Call.name c.in-Call.at c.in-Call.span c.as_str.result.now c.deref-in-Call.result.now c.deref.result.now c.here.result c.in_all-inner.result
    c.as_str.ensures.value c.deref-in-Call.ensures.value c.deref.ensures.value c.here.ensures c.in_all-inner.ensures
    ∙ ap (refused_call test) (sym c.in-Call.is)
