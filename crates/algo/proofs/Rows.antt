-- What stands in the indices of a call, read at the list of a `Vec`.
use Rattle.std.proofs.Common.{◌≡◌, ◌∷◌, ◌++◌, refl, ap, ◌∙◌}
use Rattle.std.specs.Prelude.{string_bytes}
use Rattle.tree.specs.declared.token.span.Span.{Span}
use Rattle.tree.specs.Term.{term_of, terms_of, list_terms, indices, More}
use Rattle.tree.specs.declared.expr.Cond.TheViews.{Call}
use Rattle.tree.specs.declared.expr.Cond.TheBlock.{hidden-the_row-Expr-0}
use Rattle.tree.specs.declared.expr.Expr.{Row_of-Expr, end_of-Expr, more_of-Expr, items-the_row-Expr, items_hidden-the_row-Expr-0}
use Rattle.algo.specs.Scoping.Standing.{written, placed_variables, placed_variables_of_all, list_variables, placed_calls, placed_calls_of_all, list_calls}

variables-row : (n : _) (k : Row_of-Expr n) → placed_variables_of_all k ≡ list_variables (items-the_row-Expr n k)
variables-row n end_of-Expr = refl
variables-row n (more_of-Expr a rest) = ap (λ l. placed_variables a ++ l) (variables-row _ rest)

-- a call's variables, by the list of its indices
pub placed_variables-call : (name : _) (at : _) (s : Span) → placed_variables (Call name at s) ≡ list_variables at.items
placed_variables-call name at s = variables-row _ (hidden-the_row-Expr-0 at) ∙ ap list_variables (items_hidden-the_row-Expr-0 at)

calls-row : (n : _) (k : Row_of-Expr n) → placed_calls_of_all k ≡ list_calls (items-the_row-Expr n k)
calls-row n end_of-Expr = refl
calls-row n (more_of-Expr a rest) = ap (λ l. placed_calls a ++ l) (calls-row _ rest)

terms-row : (n : _) (k : Row_of-Expr n) → terms_of k ≡ indices (list_terms (items-the_row-Expr n k))
terms-row n end_of-Expr = refl
terms-row n (more_of-Expr a rest) = ap (More (term_of a)) (terms-row _ rest)

-- a call's calls, by the list of its indices
pub placed_calls-call : (name : _) (at : _) (s : Span) → placed_calls (Call name at s) ≡ (written (string_bytes name) (indices (list_terms at.items)), s) ∷ list_calls at.items
placed_calls-call name at s =
    let k = hidden-the_row-Expr-0 at in
    let terms = terms-row _ k ∙ ap (λ l. indices (list_terms l)) (items_hidden-the_row-Expr-0 at) in
    let parts = calls-row _ k ∙ ap list_calls (items_hidden-the_row-Expr-0 at) in
    λ i. (written (string_bytes name) (terms i), s) ∷ parts i
