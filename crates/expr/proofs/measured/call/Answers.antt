use Rattle.std.proofs.Common.{ap, sym, subst, ◌∙◌, arith}
use Rattle.tree.specs.Term.{term_of, list_terms, indices, Call}
use Rattle.tree.specs.Tree.{node_count, depth}
use Rattle.expr.specs.Parsing.{Gives, fitted}
use Rattle.std.proofs.lemmas.Result.{IfOk-weaker}
use Rattle.expr.specs.Places.{Stands, AllStand, called}
use Rattle.expr.proofs.Fronts.{call_stands}
use Rattle.expr.proofs.Rows.{term_of-call}
use Rattle.expr.proofs.measured.call.Goals as goal

pub fitted-requires-clause-counted : goal.fitted-requires-clause-counted
fitted-requires-clause-counted c =
    let e = ap node_count (term_of-call c.in_ok-name.name c.args.at.items c.args.span) in
    omega (arith, e, c.args.at.counted)

pub fitted-requires-clause-sounded : goal.fitted-requires-clause-sounded
fitted-requires-clause-sounded c =
    let e = ap depth (term_of-call c.in_ok-name.name c.args.at.items c.args.span) in
    omega (arith, e, c.args.at.sounded)

pub returns-clause-read : goal.returns-clause-read
returns-clause-read c =
    let e = term_of-call c.in_ok-name.name c.args.at.items c.args.span ∙ ap (λ n. Call n (indices (list_terms c.args.at.items.items))) (c.in_ok-name.ensures.ok ∙ c.as_str.ensures.value) in
    subst (λ t. Gives (λ m. term_of m.expr) c.fitted.result (fitted 512 c.args.below t)) e c.fitted.ensures.read

pub returns-clause-at : goal.returns-clause-at
returns-clause-at c = IfOk-weaker c.fitted.result _ _ (λ m kept. kept.1) c.fitted.ensures.kept

pub returns-clause-stands : goal.returns-clause-stands
returns-clause-stands c =
    IfOk-weaker c.fitted.result _ _
    (λ m kept ls h k. subst (λ e. Stands e ls) (sym kept.0) (subst (λ (X : Type 0). X) (sym (call_stands c.in_ok-name.name c.args.at.items c.args.span ls))
    (h, subst (λ f. called f (AllStand c.args.at.items.items) ls) (sym (c.in_ok-name.ensures.ok ∙ c.as_str.ensures.value)) k)))
    c.fitted.ensures.kept
