use Rattle.std.proofs.Common.{◌≡◌, IfOk, List, Option, ap, subst, map, ◌∙◌}
use Rattle.tree.specs.Term.{term_of}
use Rattle.algo.specs.Parts.{names_of}
use Rattle.algo.specs.View.{algorithm_of}
use Rattle.lin.specs.declared.span.Span1.{Span1}
use Rattle.crop.proofs.OfInference.Updates.{pure_fold}
use Rattle.crop.proofs.inference.definitions.with_pure.Goals as goal

pub returns : goal.returns
returns c =
    let P : Option (List Span1) → Type 0 = λ x. IfOk c.with_calls.result (λ found. found ≡ x) in
    let same = ap (map (λ x. x.now)) c.deref-3.ensures.value ∙ c.in_ok-vars.ensures ∙ ap names_of c.deref.ensures.value in
    subst P (pure_fold c.args.sought.now.scope.now c.args.sought.now.inner.now (algorithm_of c.args.algo.now) c.args.function c.args.sought.now.callee.now c.args.region.now (names_of c.args.defined.now.variables.items)
    (map (λ x. x.now) c.deref-3.result.now) (term_of c.args.defined.now.value) c.new.result c.new.ensures same) c.with_calls.ensures
