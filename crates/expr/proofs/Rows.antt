-- The indices of a call, as a list.
use Rattle.std.proofs.Common.{◌≡◌, ◌+◌, max, List, [], ◌∷◌, ◌++◌, refl, ap, ◌∙◌, arith}
use Rattle.std.specs.Prelude.{string_bytes}
use Rattle.tree.specs.Term.{Term, term_of, terms_of, list_terms, indices, More, Call as CallTerm}
use Rattle.tree.specs.Tree.{node_count, node_counts, depth, depths}
use Rattle.tree.specs.declared.expr.Cond.TheViews.{Call}
use Rattle.tree.specs.declared.expr.Cond.TheBlock.{hidden-the_row-Expr-0}
use Rattle.tree.specs.declared.expr.Expr.{Row_of-Expr, end_of-Expr, more_of-Expr, items-the_row-Expr, items_hidden-the_row-Expr-0}

terms_of-row : (n : _) (k : Row_of-Expr n) → terms_of k ≡ indices (list_terms (items-the_row-Expr n k))
terms_of-row n end_of-Expr = refl
terms_of-row n (more_of-Expr a rest) = ap (More (term_of a)) (terms_of-row _ rest)

-- a call's term, by the list of its indices
pub term_of-call : (name : _) (at : _) (s : _) → term_of (Call name at s) ≡ CallTerm (string_bytes name) (indices (list_terms at.items))
term_of-call name at s = ap (CallTerm (string_bytes name)) (terms_of-row _ (hidden-the_row-Expr-0 at) ∙ ap (λ l. indices (list_terms l)) (items_hidden-the_row-Expr-0 at))

pub counts_push : (ts : List Term) (t : Term) → node_counts (indices (ts ++ (t ∷ []))) ≡ node_counts (indices ts) + node_count t
counts_push [] t = omega arith
counts_push (u ∷ ts) t = omega (arith, counts_push ts t)

pub depths_push : (ts : List Term) (t : Term) → depths (indices (ts ++ (t ∷ []))) ≡ max (depths (indices ts)) (depth t)
depths_push [] t = omega arith
depths_push (u ∷ ts) t = omega (arith, depths_push ts t)
