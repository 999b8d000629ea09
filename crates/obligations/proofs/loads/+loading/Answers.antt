use Rattle.std.proofs.Common.{◌≡◌, List, refl, sym, ap, ◌∙◌, Option, None, subst}
use Rattle.std.specs.Prelude.{IfOk, string_bytes}
use Rattle.soundness.specs.declared.outline.refusals.code.Flaw.{Flaw}
use Rattle.tree.specs.Term.{Term, Call}
use Rattle.tree.proofs.Rows.{term_of-call}
use Rattle.obligations.specs.Asked.{first_unmet}
use Rattle.obligations.specs.Loads.{load_in, intervals_in}
use Rattle.obligations.proofs.Unmet.{stop_append, go_append}
use Rattle.tree.specs.declared.expr.Expr.{Expr}
use Rattle.tree.specs.Term.{term_of, indices, list_terms}
use Rattle.obligations.specs.Loads.{loads_in, loads_of_all_in}
use Rattle.soundness.specs.Outline.View.{outline_in}
use Rattle.obligations.proofs.Unmet.{loop_stops, loop_goes, loop_ends}
use Rattle.obligations.proofs.loads.+loading.Goals as goal

pub unmet_indices-returns-in-Some : goal.unmet_indices-returns-in-Some
unmet_indices-returns-in-Some g t c =
    let O = outline_in c.args.judge.now.outlined.now in
    let R = g.B.Bounds.rules c.args.judge.now.bounds.now in
    let N = g.T.NestTests.nests c.args.judge.now.tests.now in
    let P = c.args.judge.now.part in
    let r = c.args.reads.now in
    let i = c.loop-index.index-index in
    let all = c.args.at.now in
    let x = c.index-item.result in
    loop_stops R N P (λ (es : List Expr). loads_of_all_in O R r c.args.vars.now (indices (list_terms es))) (λ (e : Expr). loads_in O R r c.args.vars.now (term_of e)) (λ y ys. refl) all i x c.in-Some.flaw c.loop-index-test.true c.index-item.is c.loop-index.invariant (sym c.in-Some.is ∙ c.in_ok-flaw.ensures)

pub unmet_indices-loop-index-preserved : goal.unmet_indices-loop-index-preserved
unmet_indices-loop-index-preserved g t c =
    let O = outline_in c.args.judge.now.outlined.now in
    let R = g.B.Bounds.rules c.args.judge.now.bounds.now in
    let N = g.T.NestTests.nests c.args.judge.now.tests.now in
    let P = c.args.judge.now.part in
    let r = c.args.reads.now in
    let i = c.loop-index.index-index in
    let all = c.args.at.now in
    let x = c.index-item.result in
    loop_goes R N P (λ (es : List Expr). loads_of_all_in O R r c.args.vars.now (indices (list_terms es))) (λ (e : Expr). loads_in O R r c.args.vars.now (term_of e)) (λ y ys. refl) all i x c.loop-index-test.true c.index-item.is c.loop-index.invariant (sym c.in_default.is ∙ c.in_ok-flaw.ensures)

pub unmet_indices-returns : goal.unmet_indices-returns
unmet_indices-returns g t c =
    let O = outline_in c.args.judge.now.outlined.now in
    let R = g.B.Bounds.rules c.args.judge.now.bounds.now in
    let N = g.T.NestTests.nests c.args.judge.now.tests.now in
    let P = c.args.judge.now.part in
    let r = c.args.reads.now in
    let i = c.loop-index.index-index in
    let all = c.args.at.now in
    loop_ends R N P (λ (es : List Expr). loads_of_all_in O R r c.args.vars.now (indices (list_terms es))) (λ (e : Expr). loads_in O R r c.args.vars.now (term_of e)) (λ y ys. refl) all i refl c.loop-index-test.false c.loop-index.invariant

pub unmet_loads-returns-in-Some : goal.unmet_loads-returns-in-Some
unmet_loads-returns-in-Some g t c =
    let O = outline_in c.args.judge.now.outlined.now in
    let R = g.B.Bounds.rules c.args.judge.now.bounds.now in
    let N = g.T.NestTests.nests c.args.judge.now.tests.now in
    let P = c.args.judge.now.part in
    let r = c.args.reads.now in
    let vars = c.args.vars.now in
    let at = c.deref.result.now in
    let name = string_bytes c.in-Call.name in
    let e : term_of c.args.expr.now ≡ Call name (indices (list_terms at)) =
    ap term_of c.in-Call.is ∙ term_of-call c.in-Call.name c.in-Call.at c.in-Call.span ∙ ap (λ (l : List Expr). Call name (indices (list_terms l))) (sym c.deref.ensures.value) in
    let found = sym c.in-Some.is ∙ c.in_ok-flaw-in-Call.ensures in
    sym (ap (λ (a : Term). first_unmet R N P (loads_in O R r vars a)) e
    ∙ stop_append R N P (loads_of_all_in O R r vars (indices (list_terms at))) (load_in O R r (O.source name) (intervals_in O R r vars (indices (list_terms at)))) c.in-Some.flaw (sym found))

pub unmet_loads-returns-in_default : goal.unmet_loads-returns-in_default
unmet_loads-returns-in_default g t c =
    let O = outline_in c.args.judge.now.outlined.now in
    let R = g.B.Bounds.rules c.args.judge.now.bounds.now in
    let N = g.T.NestTests.nests c.args.judge.now.tests.now in
    let P = c.args.judge.now.part in
    let r = c.args.reads.now in
    let vars = c.args.vars.now in
    let at = c.deref-in-Call.result.now in
    let name = c.as_str.result.now in
    let same : c.deref.result.now ≡ at = c.deref.ensures.value ∙ sym c.deref-in-Call.ensures.value in
    let e : term_of c.args.expr.now ≡ Call name (indices (list_terms at)) =
    ap term_of c.in-Call.is ∙ term_of-call c.in-Call.name c.in-Call.at c.in-Call.span
    ∙ (λ i. Call (sym c.as_str.ensures.value i) (indices (list_terms (sym c.deref-in-Call.ensures.value i)))) in
    let none : first_unmet R N P (loads_of_all_in O R r vars (indices (list_terms at))) ≡ None =
    ap (λ (l : List Expr). first_unmet R N P (loads_of_all_in O R r vars (indices (list_terms l)))) (sym same) ∙ sym c.in_ok-flaw-in-Call.ensures ∙ c.in_default.is in
    let all = ap (λ (a : Term). first_unmet R N P (loads_in O R r vars a)) e
    ∙ go_append R N P (loads_of_all_in O R r vars (indices (list_terms at))) (load_in O R r (O.source name) (intervals_in O R r vars (indices (list_terms at)))) none in
    subst (λ (o : Option Flaw). IfOk c.unmet_call.result (λ flaw. flaw ≡ o)) (sym all) c.unmet_call.ensures
