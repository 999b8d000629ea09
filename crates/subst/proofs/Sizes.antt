-- The size of a row of indices with one more.
use Rattle.std.proofs.Common.{◌≡◌, ℕ, ◌+◌, List, [], ◌∷◌, ◌++◌, ap, ◌∙◌, arith}
use Rattle.std.specs.Prelude.{max}
use Rattle.tree.specs.declared.expr.Expr.{Expr}
use Rattle.tree.specs.Term.{term_of, list_terms, indices}
use Rattle.tree.specs.Tree.{node_count, node_counts, depth, depths}

pub counts_more : (xs : List Expr) (x : Expr) → node_counts (indices (list_terms xs)) + node_count (term_of x) ≡ node_counts (indices (list_terms (xs ++ x ∷ [])))
counts_more [] x = omega arith
counts_more (a ∷ xs) x = omega (arith, counts_more xs x)

max_three : (k l m : ℕ) → max (max k l) m ≡ max k (max l m)
max_three k l m = grind arith

max_ends : (k : ℕ) → max 0 k ≡ max k 0
max_ends k = grind arith

pub depths_more : (xs : List Expr) (x : Expr) → max (depths (indices (list_terms xs))) (depth (term_of x)) ≡ depths (indices (list_terms (xs ++ x ∷ [])))
depths_more [] x = max_ends (depth (term_of x))
depths_more (a ∷ xs) x = max_three (depth (term_of a)) (depths (indices (list_terms xs))) (depth (term_of x)) ∙ ap (max (depth (term_of a))) (depths_more xs x)
