use Rattle.std.proofs.Common.{◌≡◌, IfOk, List, Option, ap, sym, subst, map, ◌∙◌}
use Rattle.std.specs.Prelude.{fold}
use Rattle.tree.specs.Term.{term_of}
use Rattle.algo.specs.Scoping.Standing.{calls_of}
use Rattle.lin.specs.declared.span.Span1.{Span1}
use Rattle.bounds.specs.Projection.Unions.{with_region}
use Rattle.crop.specs.Inference.Regions.{regions_of}
use Rattle.crop.proofs.OfInference.Unions.{fold_of_call}
use Rattle.crop.proofs.inference.calls.+calls.Goals as goal

pub with_calls-returns-in_ok-here-in-Call : goal.with_calls-returns-in_ok-here-in-Call
with_calls-returns-in_ok-here-in-Call g t c =
    let fs = g.N.Names.functions c.args.names.now in
    let vars = map (λ x. x.now) c.args.vars.now in
    let is = fold_of_call c.args.sought.now.scope.now fs vars c.args.region.now c.args.sought.now.inner.now c.args.sought.now.callee.now c.args.known c.in_ok-here-in-Call.here c.in-Call.name c.in-Call.at c.in-Call.span c.as_str.result.now c.deref.result.now c.deref-in-Call.result.now
    c.as_str.ensures.value c.deref.ensures.value c.deref-in-Call.ensures.value c.in_ok-here-in-Call.ensures
    ∙ ap (λ e. fold (with_region c.args.sought.now.scope.now) c.args.known (regions_of c.args.sought.now.scope.now fs vars c.args.region.now c.args.sought.now.inner.now c.args.sought.now.callee.now (calls_of (term_of e)))) (sym c.in-Call.is) in
    let P : Option (List Span1) → Type 0 = λ x. IfOk c.with_calls_of_all.result (λ found. found ≡ x) in
    subst P is c.with_calls_of_all.ensures
