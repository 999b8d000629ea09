use Rattle.std.proofs.Common.{◌≡◌, ◌<◌, ap, sym, ◌∙◌, subst, arith, rules, w64, length, List}
use Rattle.std.proofs.lemmas.Int.{to_z-of_z}
use Rattle.tree.specs.Term.{Term, list_terms, indices}
use Rattle.tree.specs.Typing.{type_of, HasFewIndices}
use Rattle.tree.specs.Meaning.{value_of, numbers_of}
use Rattle.tree.specs.declared.expr.Expr.{Expr}
use Rattle.std.proofs.Common.{IsSome}
use Rattle.meaning.specs.Algorithm.{Function, Change}
use Rattle.meaning.specs.Names.{same_point}
use Rattle.algo.specs.View.{algorithm_of, samples_of}
use Rattle.plain.specs.declared.frame.Stage.{Stage}
use Rattle.plain.specs.declared.frame.Step.{Step}
use Rattle.plain.specs.Scopes.{function_at}
use Rattle.plain.specs.Stages.{IsStage}
use Rattle.plain.specs.Goals.{Follows}
use Rattle.plain.specs.Seen.{CanEvaluateAll, scope_variables, scope_answers, turned}
use Rattle.plain.proofs.Known.{is_function}
use Rattle.plain.proofs.Scoped.{named_in, functions_in}
use Rattle.plain.proofs.Stepped.{pure_follows, right_follows, before_follows, left_follows, pure_evaluates, right_evaluates, left_evaluates}
use Rattle.plain.proofs.stepping.finish.Goals as goal

pub eval-requires-clause-typed : goal.eval-requires-clause-typed
eval-requires-clause-typed c =
    let s = c.args.scope.now in
    let e = ap (λ (f : Function). f.value) c.function_at.ensures in
    let p = pure_evaluates s.algo.now s.inputs.now c.args.frame.now s c.requires.scope c.is_well_formed.ensures c.requires.input c.requires.frame c.in-Pure.is in
    subst (λ (t : Term). IsSome (type_of (named_in s.algo.now s.inputs.now c.args.frame.now s c.requires.scope s) (functions_in s.algo.now s.inputs.now c.args.frame.now s c.requires.scope s) t)) (sym e) p.0

pub eval-requires-clause-few : goal.eval-requires-clause-few
eval-requires-clause-few c =
    let s = c.args.scope.now in
    let e = ap (λ (f : Function). f.value) c.function_at.ensures in
    let p = pure_evaluates s.algo.now s.inputs.now c.args.frame.now s c.requires.scope c.is_well_formed.ensures c.requires.input c.requires.frame c.in-Pure.is in
    subst HasFewIndices (sym e) p.1

pub numbers-requires : goal.numbers-requires
numbers-requires c =
    let s = c.args.scope.now in
    let e = ap (λ (l : List Expr). indices (list_terms l)) c.deref.ensures.value ∙ ap (λ (u : Change). indices u.at) c.update_at.ensures in
    subst (CanEvaluateAll s) (sym e) (left_evaluates s.algo.now s.inputs.now c.args.frame.now s c.requires.scope c.is_well_formed.ensures c.requires.input c.requires.frame c.in-Left.update c.in-Left.point c.in-Left.is)

pub compared-requires : goal.compared-requires
compared-requires c =
    let s = c.args.scope.now in
    let a = algorithm_of s.algo.now in
    let f = c.args.frame.now in
    let ok : c.in-Left.update < length (function_at a f.function).changes = subst (λ (t : Stage). IsStage (function_at a f.function) t) c.in-Left.is c.requires.frame.stage in
    let few = (is_function a (samples_of s.inputs.now) c.is_well_formed.ensures f.function c.requires.frame.place.below).few_updates in
    omega (arith, ok, few)

pub eval-requires-in-Right-clause-typed : goal.eval-requires-in-Right-clause-typed
eval-requires-in-Right-clause-typed c =
    let s = c.args.scope.now in
    let e = ap (λ (u : Change). u.value) c.update_at-in-Right.ensures in
    let p = right_evaluates s.algo.now s.inputs.now c.args.frame.now s c.requires.scope c.is_well_formed.ensures c.requires.input c.requires.frame c.in-Right.update c.in-Right.point c.in-Right.is in
    subst (λ (t : Term). IsSome (type_of (named_in s.algo.now s.inputs.now c.args.frame.now s c.requires.scope s) (functions_in s.algo.now s.inputs.now c.args.frame.now s c.requires.scope s) t)) (sym e) p.0

pub eval-requires-in-Right-clause-few : goal.eval-requires-in-Right-clause-few
eval-requires-in-Right-clause-few c =
    let s = c.args.scope.now in
    let e = ap (λ (u : Change). u.value) c.update_at-in-Right.ensures in
    let p = right_evaluates s.algo.now s.inputs.now c.args.frame.now s c.requires.scope c.is_well_formed.ensures c.requires.input c.requires.frame c.in-Right.update c.in-Right.point c.in-Right.is in
    subst HasFewIndices (sym e) p.1

pub returns-in-Pure : goal.returns-in-Pure
returns-in-Pure c =
    let s = c.args.scope.now in
    let e = ap (λ (f : Function). f.value) c.function_at.ensures in
    let back = to_z-of_z w64 c.eval.result (search rules) in
    pure_follows s.algo.now s.inputs.now c.args.frame.now s c.requires.scope c.is_well_formed.ensures c.requires.input c.requires.frame c.requires.all _ c.in-Pure.is
    (back ∙ c.eval.ensures ∙ ap (λ (t : Term). (value_of (scope_variables s) (scope_answers s) t).number) e)

pub returns-in-Right : goal.returns-in-Right
returns-in-Right c =
    let s = c.args.scope.now in
    let e = ap (λ (u : Change). u.value) c.update_at-in-Right.ensures in
    let back = to_z-of_z w64 c.eval-in-Right.result (search rules) in
    right_follows s.algo.now s.inputs.now c.args.frame.now s c.requires.scope c.is_well_formed.ensures c.requires.input c.requires.frame c.requires.all c.in-Right.update c.in-Right.point _ c.in-Right.is
    (back ∙ c.eval-in-Right.ensures ∙ ap (λ (t : Term). (value_of (scope_variables s) (scope_answers s) t).number) e)

pub returns-in-Before : goal.returns-in-Before
returns-in-Before c =
    let s = c.args.scope.now in
    before_follows s.algo.now s.inputs.now c.args.frame.now s c.requires.scope c.is_well_formed.ensures c.requires.input c.requires.frame c.requires.all c.in-Before.update c.points_before.result c.in-Before.is c.points_before.ensures

pub returns-in_ok-place-in-Left : goal.returns-in_ok-place-in-Left
returns-in_ok-place-in-Left c =
    let s = c.args.scope.now in
    let e = ap (λ (l : List Expr). indices (list_terms l)) c.deref.ensures.value ∙ ap (λ (u : Change). indices u.at) c.update_at.ensures in
    let place = c.in_ok-place-in-Left.ensures ∙ ap (numbers_of (scope_variables s) (scope_answers s)) e in
    let test : same_point c.deref-in-Left.result.now c.deref-in-Left-2.result.now ≡ same_point c.in_ok-place-in-Left.place.items c.args.frame.now.at.items = (λ i. same_point (c.deref-in-Left.ensures.value i) (c.deref-in-Left-2.ensures.value i)) in
    let step = c.compared.ensures ∙ ap (λ b. turned b c.in-Left.update c.in-Left.point) test in
    subst (λ (x : Step). Follows (algorithm_of s.algo.now) (samples_of s.inputs.now) c.args.frame.now x) (sym step)
    (left_follows s.algo.now s.inputs.now c.args.frame.now s c.requires.scope c.is_well_formed.ensures c.requires.input c.requires.frame c.requires.all c.in-Left.update c.in-Left.point c.in_ok-place-in-Left.place.items c.in-Left.is place)
