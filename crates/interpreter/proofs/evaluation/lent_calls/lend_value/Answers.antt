use Rattle.std.proofs.Common.{ℕ, List, Option, sym, ap, ◌∙◌}
use Rattle.plan.specs.Semantics.Found.{found, with, all_found}
use Rattle.tree.specs.declared.expr.Expr.{Expr}
use Rattle.tree.specs.declared.value.Value.{Value}
use Rattle.tree.specs.Term.{term_of, list_terms, indices}
use Rattle.interpreter.specs.Evaluation.Lanes.{found_as}
use Rattle.interpreter.proofs.FoundRuns.{found_call}
use Rattle.interpreter.proofs.evaluation.lent_calls.lend_value.Goals as goal

pub returns-clause-value : goal.returns-clause-value
returns-clause-value g c = λ m ok k lt.
    let vs = g.R.RunReader.variables c.args.reader.now k in
    let look = g.R.RunReader.look c.args.reader.now m in
    let cast = c.uncast-cast.result.0 in
    let called : (n : List ℕ) (l : List Expr) → Option Value = λ n l. found_as cast (with (all_found vs look (indices (list_terms l))) (λ zs. look n zs)) in
    c.uncast-cast.ensures vs look
    ∙ ap (λ (e : Expr). found_as cast (found vs look (term_of e))) c.in-Call.is
    ∙ ap (found_as cast) (found_call vs look c.in-Call.name c.in-Call.at c.in-Call.span)
    ∙ (λ i. called (sym c.as_str.ensures.value i) (sym c.deref.ensures.value i))
    ∙ c.in_ok-operand.ensures.value m ok k lt
