-- An index that is a variable alone.
use Rattle.std.proofs.Common.{◌≡◌, ◌<◌, ◌≤◌, ℕ, zero, suc, List, [], ◌∷◌, length, get_or, false, refl, ap, arith}
use Rattle.tree.specs.declared.expr.Expr.{Expr}
use Rattle.tree.specs.Term.{term_of, indices, list_terms}
use Rattle.meaning.specs.Conditions.{is_variable, has_variable}

pub has_variable-within : (v : List ℕ) (at : List Expr) (k : ℕ) (x : Expr) → k < length at → x ≡ get_or at k x → is_variable v (term_of x) ≡ has_variable v k (indices (list_terms at))
has_variable-within v [] k x lt is = absurd (omega (arith, lt))
has_variable-within v (a ∷ rest) zero x lt is = ap (λ e. is_variable v (term_of e)) is
has_variable-within v (a ∷ rest) (suc k) x lt is = has_variable-within v rest k x (omega (arith, lt)) is

pub has_variable-past : (v : List ℕ) (at : List Expr) (k : ℕ) → length at ≤ k → has_variable v k (indices (list_terms at)) ≡ false
has_variable-past v [] k h = refl
has_variable-past v (a ∷ rest) zero h = absurd (omega (arith, h))
has_variable-past v (a ∷ rest) (suc k) h = has_variable-past v rest k (omega (arith, h))
