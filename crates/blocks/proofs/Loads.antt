-- Calls that are loads.
use Rattle.std.proofs.Common.{◌≡◌, ℕ, ◌+◌, ◌<◌, ◌≤◌, List, [], ◌∷◌, ◌++◌, length, take, refl, sym, ap, ◌∙◌, get_or}
use Rattle.std.specs.Prelude.{string_bytes}
use Rattle.std.specs.declared.string.String.{String}
use Rattle.std.specs.Global.{Global, Vec}
use Rattle.tree.specs.declared.token.span.Span.{Span}
use Rattle.tree.specs.declared.expr.Expr.{Expr}
use Rattle.tree.specs.declared.expr.Cond.TheViews.{Call}
use Rattle.tree.specs.Term.{Term, Terms, Call as CallTerm, term_of, list_terms, indices}
use Rattle.tree.specs.Substitution.{with_calls, all_with_calls}
use Rattle.tree.proofs.Rows.{term_of-call}
use Rattle.subst.proofs.Parts.{whole_row, call_is, row_more}

pub call_made : (e : Expr) (name : String Global) (at : Vec Expr) (s : Span) (x : List ℕ) → e ≡ Call name at s → string_bytes name ≡ x → term_of e ≡ CallTerm x (indices (list_terms at.items))
call_made e name at s x is named = ap term_of is ∙ term_of-call name at s ∙ ap (λ (n : List ℕ). CallTerm n (indices (list_terms at.items))) named

module _ (put : List ℕ → Terms → Term) where
  -- a call whose indices are loads already
  pub call_loaded : (e made : Expr) (name : String Global) (at : Vec Expr) (s : Span) (xs ys : List Expr) (n : List ℕ) → e ≡ Call name at s → xs ≡ at.items → n ≡ string_bytes name
      → indices (list_terms ys) ≡ all_with_calls put (indices (list_terms xs)) → term_of made ≡ put n (indices (list_terms ys)) → term_of made ≡ with_calls put (term_of e)
  call_loaded e made name at s xs ys n is same named each whole =
      whole ∙ (λ i. put (named i) (each i)) ∙ sym (ap (with_calls put) (call_is e name at s xs is same))

  -- one more index
  pub more_loaded : (made by : List Expr) (k : ℕ) (x e : Expr) (now : List Expr) → k < length by → x ≡ get_or by k x → term_of e ≡ with_calls put (term_of x)
      → indices (list_terms made) ≡ all_with_calls put (indices (list_terms (take k by))) → now ≡ made ++ e ∷ []
      → indices (list_terms now) ≡ all_with_calls put (indices (list_terms (take (k + 1) by)))
  more_loaded made by k x e now lt is one before pushed =
      ap (λ (l : List Expr). indices (list_terms l)) pushed ∙ row_more (with_calls put) (all_with_calls put) refl (λ a rest. refl) made by k x e lt is one before

  pub all_loaded : (made by : List Expr) (k : ℕ) → length by ≤ k → indices (list_terms made) ≡ all_with_calls put (indices (list_terms (take k by)))
      → indices (list_terms made) ≡ all_with_calls put (indices (list_terms by))
  all_loaded made by k le before = before ∙ ap (all_with_calls put) (whole_row by k le)
