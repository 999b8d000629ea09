use Rattle.std.proofs.Common.{rules, ◌≡◌, ◌≤◌, ◌<◌, w64, to_z, of_z, ap, sym, subst, map, ◌∙◌, arith}
use Rattle.tree.specs.Term.{term_of}
use Rattle.tree.specs.Typing.{CanEvaluate, shape_type}
use Rattle.numeric.specs.declared.ty.Ty.TheVariants.{I32}
use Rattle.tree.specs.declared.expr.Cond.TheViews.{the_lemmas}
use Rattle.std.specs.Prelude.{All, length}
use Rattle.std.proofs.Common.{length-set}
use Rattle.std.proofs.lemmas.Int.{to_z-of_z}
use Rattle.numeric.specs.Wrap.{IsOf}
use Rattle.tree.specs.Names.{typed_answers, TakesCall, IsIndex}
use Rattle.tree.specs.Meaning.{value_of}
use Rattle.tree.specs.declared.expr.Expr.{Expr}
use Rattle.tree.proofs.Rows.{CallReady, call_ready, value_of-call, more_numbers, more_within}
use Rattle.tree.proofs.evaluation.+eval.Goals as goal

pub evaluate-call-requires : goal.evaluate-call-requires
evaluate-call-requires g t c =
    let vs = g.E.Names.variables c.args.env.now in
    let fs = g.E.Names.functions c.args.env.now in
    let at = c.deref.result.now in
    let here = call_ready vs fs c.in-Call.name c.in-Call.at c.in-Call.span (subst (λ e. CanEvaluate vs fs (term_of e)) c.in-Call.is c.requires) in
    let named = subst (λ n. CallReady vs fs n c.in-Call.at.items) (sym c.as_str-in-Call.ensures.value) here in
    let ready : CallReady vs fs c.as_str-in-Call.result.now at = subst (CallReady vs fs c.as_str-in-Call.result.now) (sym c.deref.ensures.value) named in
    let known : TakesCall (fs c.as_str-in-Call.result.now) (length at) = ready.known in
    let few : length at ≤ 4 = ready.few in
    let typed : All (λ a. CanEvaluate vs fs (term_of a)) at = ready.ready.typed in
    let indices : All (λ a. shape_type fs (term_of a) ≡ I32) at = ready.ready.indices in
    λ k l. (search (rules, the_lemmas), (search rules, (known, (few, (typed, indices)))))

pub evaluate-returns-in-Call-clause-value : goal.evaluate-returns-in-Call-clause-value
evaluate-returns-in-Call-clause-value g t c =
    let fs = g.E.Names.functions c.args.env.now in
    let calls = typed_answers fs (g.E.Env.answers c.args.env.now) in
    let number = λ (a : Expr). (value_of (g.E.Env.numbers c.args.env.now) calls (term_of a)).number in
    rw (c.in-Call.is, value_of-call) (c.call.ensures.value ∙ (λ i. calls (c.as_str-in-Call.ensures.value i) (map number (c.deref.ensures.value i))))

pub call-loop-i-preserved : goal.call-loop-i-preserved
call-loop-i-preserved g t c =
    let number = λ (a : Expr). (value_of (g.E.Env.numbers c.args.env.now) (typed_answers (g.E.Names.functions c.args.env.now) (g.E.Env.answers c.args.env.now)) (term_of a)).number in
    let l = c.loop-i in
    let v = c.evaluate.result in
    let back = to_z-of_z w64 v.number (search rules) in
    let short : l.i < length l.numbers = omega (arith, l.invariant.four) in
    let is : to_z w64 (of_z w64 v.number) ≡ number c.index-at-i.result = back ∙ ap (λ x. x.number) c.evaluate.ensures.value in
    let indices : All (λ a. shape_type (g.E.Names.functions c.args.env.now) (term_of a) ≡ I32) c.args.at.now = search rules in
    let kind = indices l.i c.index-at-i.result c.loop-i-test.true in
    let ty : v.ty ≡ I32 = c.evaluate.ensures.ty ∙ ap (λ a. shape_type (g.E.Names.functions c.args.env.now) (term_of a)) c.index-at-i.is ∙ kind in
    let within = subst IsIndex (sym back) (subst (λ k. IsOf k v.number) ty c.evaluate.ensures.within) in
    record {
      four = length-set l.numbers l.i _ ∙ l.invariant.four;
      values = more_numbers number l.numbers c.args.at.now l.i _ c.index-at-i.result short c.loop-i-test.true c.index-at-i.is is l.invariant.values;
      within = more_within l.numbers l.i _ short l.invariant.within within;
    }
