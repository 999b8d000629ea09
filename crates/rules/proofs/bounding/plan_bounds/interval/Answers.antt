use Rattle.std.proofs.Common.{rules, ◌≡◌, sym, ap, ◌∙◌, map, true, Some, None, Bor, List, ℕ}
use Rattle.tree.specs.Term.{term_of}
use Rattle.algo.specs.View.{algorithm_of}
use Rattle.bounds.specs.Interval.{interval}
use Rattle.soundness.specs.Outline.View.{plan_in, certificate_in}
use Rattle.rules.specs.Bounding.Called.{called}
use Rattle.rules.specs.Bounding.Rules.{is_bounded_in}
use Rattle.rules.proofs.Asked.{shown_span, shown_nothing}
use Rattle.rules.proofs.bounding.plan_bounds.interval.Goals as goal

pub returns-in-Ok : goal.returns-in-Ok
returns-in-Ok c =
    let a = algorithm_of c.args.called.now.algo.now in
    let p = plan_in c.args.called.now.outlined.now in
    let k = certificate_in c.args.called.now.outlined.now in
    let names = map (λ (x : Bor (List ℕ)). x.now) c.args.called.now.variables.now in
    let e = term_of c.args.expr.now in
    let yes : is_bounded_in a p k c.args.kept.now names c.args.vars.now e ≡ true = search rules in
    let made = ap (λ s. interval s (called a p k) names c.args.vars.now e) (sym (c.scope.ensures ∙ c.in_ok-is_bounded.ensures.same)) ∙ c.in-Ok.ensures.ok in
    shown_span (is_bounded_in a p k c.args.kept.now names c.args.vars.now e) (interval c.args.kept.now (called a p k) names c.args.vars.now e) c.in-Ok.span yes made

pub returns-in-Err-Limit : goal.returns-in-Err-Limit
returns-in-Err-Limit c =
    let a = algorithm_of c.args.called.now.algo.now in
    let p = plan_in c.args.called.now.outlined.now in
    let k = certificate_in c.args.called.now.outlined.now in
    let names = map (λ (x : Bor (List ℕ)). x.now) c.args.called.now.variables.now in
    let e = term_of c.args.expr.now in
    let yes : is_bounded_in a p k c.args.kept.now names c.args.vars.now e ≡ true = search rules in
    let none : interval c.scope.result.now (called a p k) names c.args.vars.now e ≡ None = search rules in
    let made = ap (λ s. interval s (called a p k) names c.args.vars.now e) (sym (c.scope.ensures ∙ c.in_ok-is_bounded.ensures.same)) ∙ none in
    c.anything-in-Err-Limit.ensures ∙ shown_nothing (is_bounded_in a p k c.args.kept.now names c.args.vars.now e) (interval c.args.kept.now (called a p k) names c.args.vars.now e) yes made
