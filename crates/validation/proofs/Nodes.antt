-- Sizes of expressions that stop at the greatest number.
use Rattle.std.proofs.Common.{◌≡◌, ℕ, ◌+◌, ◌<◌, ◌≤◌, Bool, IsTrue, List, [], ◌∷◌, ◌++◌, take, length, get_or, sym, ap, ◌∙◌, arith}
use Rattle.std.specs.Prelude.{◌↔◌, max}
use Rattle.std.proofs.lemmas.List.{take_more}
use Rattle.tree.specs.declared.expr.Expr.{Expr}
use Rattle.std.specs.Global.{Vec, Global}
use Rattle.std.specs.declared.string.String.{String}
use Rattle.tree.specs.declared.token.span.Span.{Span}
use Rattle.tree.specs.declared.expr.Cond.TheViews.{Call}
use Rattle.tree.specs.Term.{Term, term_of, list_terms, indices}
use Rattle.tree.proofs.Rows.{term_of-call}
use Rattle.tree.specs.Tree.{node_count, node_counts, depth, depths}
use Rattle.validation.specs.Stored.Sizes.{counted}

counts_more : (xs : List Expr) (x : Expr) → node_counts (indices (list_terms xs)) + node_count (term_of x) ≡ node_counts (indices (list_terms (xs ++ x ∷ [])))
counts_more [] x = omega arith
counts_more (a ∷ xs) x = omega (arith, counts_more xs x)

max_three : (k l m : ℕ) → max (max k l) m ≡ max k (max l m)
max_three k l m = grind arith

max_ends : (k : ℕ) → max 0 k ≡ max k 0
max_ends k = grind arith

depths_more : (xs : List Expr) (x : Expr) → max (depths (indices (list_terms xs))) (depth (term_of x)) ≡ depths (indices (list_terms (xs ++ x ∷ [])))
depths_more [] x = max_ends (depth (term_of x))
depths_more (a ∷ xs) x = max_three (depth (term_of a)) (depths (indices (list_terms xs))) (depth (term_of x)) ∙ ap (max (depth (term_of a))) (depths_more xs x)

-- one index more
pub nodes_next : (at : List Expr) (i : ℕ) (x : Expr) → i < length at → x ≡ get_or at i x
    → node_counts (indices (list_terms (take i at))) + node_count (term_of x) ≡ node_counts (indices (list_terms (take (i + 1) at)))
nodes_next at i x lt is =
    ap (λ y. node_counts (indices (list_terms (take i at))) + node_count (term_of y)) is
    ∙ counts_more (take i at) (get_or at i x)
    ∙ ap (λ ys. node_counts (indices (list_terms ys))) (sym (take_more at i x lt))

pub levels_next : (at : List Expr) (i : ℕ) (x : Expr) → i < length at → x ≡ get_or at i x
    → max (depths (indices (list_terms (take i at)))) (depth (term_of x)) ≡ depths (indices (list_terms (take (i + 1) at)))
levels_next at i x lt is =
    ap (λ y. max (depths (indices (list_terms (take i at)))) (depth (term_of y))) is
    ∙ depths_more (take i at) (get_or at i x)
    ∙ ap (λ ys. depths (indices (list_terms ys))) (sym (take_more at i x lt))

pub counted_sum : (a b : ℕ) → counted (counted a + counted b) ≡ counted (a + b)
counted_sum a b = omega arith

pub counted_max : (a b : ℕ) → max (counted a) (counted b) ≡ counted (max a b)
counted_max a b = omega arith

counted_next : (a : ℕ) → counted (counted a + 1) ≡ counted (a + 1)
counted_next a = omega arith

-- the size of a call, by that of its indices
pub call_nodes : (name : String Global) (at : Vec Expr) (s : Span) (xs : List Expr) (m r : ℕ) → xs ≡ at.items → m ≡ counted (node_counts (indices (list_terms xs))) → r ≡ counted (m + 1)
    → r ≡ counted (node_count (term_of (Call name at s)))
call_nodes name at s xs m r is e f =
    f ∙ ap (λ (n : ℕ). counted (n + 1)) e ∙ counted_next (node_counts (indices (list_terms xs)))
    ∙ ap (λ (v : List Expr). counted (node_counts (indices (list_terms v)) + 1)) is
    ∙ ap (λ (t : Term). counted (node_count t)) (sym (term_of-call name at s))

pub call_levels : (name : String Global) (at : Vec Expr) (s : Span) (xs : List Expr) (m r : ℕ) → xs ≡ at.items → m ≡ counted (depths (indices (list_terms xs))) → r ≡ counted (m + 1)
    → r ≡ counted (depth (term_of (Call name at s)))
call_levels name at s xs m r is e f =
    f ∙ ap (λ (n : ℕ). counted (n + 1)) e ∙ counted_next (depths (indices (list_terms xs)))
    ∙ ap (λ (v : List Expr). counted (depths (indices (list_terms v)) + 1)) is
    ∙ ap (λ (t : Term). counted (depth t)) (sym (term_of-call name at s))

-- a size within the limits
pub small_size : (b : Bool) (n d m l : ℕ) → m ≡ counted n → l ≡ counted d → (IsTrue b ↔ ((m ≤ 4096) × (l ≤ 256))) → (IsTrue b ↔ ((n ≤ 4096) × (d ≤ 256)))
small_size b n d m l e f q = (
  λ h. let k = q.0 h in let x = k.0 in let y = k.1 in (omega (arith, x, e), omega (arith, y, f)),
  λ h. let x = h.0 in let y = h.1 in q.1 (omega (arith, x, e), omega (arith, y, f)),
)
