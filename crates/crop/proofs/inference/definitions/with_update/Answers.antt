use Rattle.std.proofs.Common.{◌≡◌, ◌+◌, suc, IfOk, List, Option, ap, subst, map, ◌∙◌, arith}
use Rattle.tree.specs.Term.{list_terms}
use Rattle.algo.specs.Parts.{names_of, range_of, change_of}
use Rattle.algo.specs.View.{algorithm_of}
use Rattle.lin.specs.declared.span.Span1.{Span1}
use Rattle.crop.specs.Inference.Needed.{names_beside, with_domain}
use Rattle.crop.proofs.OfInference.Updates.{update_fold}
use Rattle.crop.proofs.inference.definitions.with_update.Goals as goal

pub returns : goal.returns
returns c =
    let P : Option (List Span1) → Type 0 = λ x. IfOk c.with_calls.result (λ found. found ≡ x) in
    let named = c.in_ok-vars.ensures ∙ (λ i. names_beside (names_of (c.deref.ensures.value i)) (map range_of (c.deref-2.ensures.value i))) in
    let left = ap (map (λ x. x.now)) c.deref-5.ensures.value ∙ named in
    let right = ap (map (λ x. x.now)) c.deref-8.ensures.value ∙ named in
    let spans = c.in_ok-spans.ensures ∙ ap (λ rs. with_domain c.args.region.now (map range_of rs)) c.deref-3.ensures.value in
    let next : c.args.function + 1 ≡ suc c.args.function = omega arith in
    subst P (update_fold c.args.sought.now.scope.now c.args.sought.now.inner.now (algorithm_of c.args.algo.now) c.args.function c.args.sought.now.callee.now c.args.region.now (names_of c.args.defined.now.variables.items)
    (map (λ x. x.now) c.deref-5.result.now) (map (λ x. x.now) c.deref-8.result.now) (change_of c.args.update.now) (list_terms c.deref-6.result.now) (c.args.function + 1) c.in_ok-spans.spans c.args.known c.in_ok-found.found
    left right (ap list_terms c.deref-6.ensures.value) next spans c.in_ok-found.ensures) c.with_calls.ensures
