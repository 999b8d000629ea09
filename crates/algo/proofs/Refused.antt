-- The first call that a test refuses, of each form of an expression.
use Rattle.std.proofs.Common.{◌≡◌, ℕ, List, [], ◌∷◌, ◌++◌, Bool, Option, ap, sym, ◌∙◌}
use Rattle.std.specs.Prelude.{string_bytes}
use Rattle.std.specs.Option.{option_or, option_map}
use Rattle.std.specs.Global.{Vec}
use Rattle.tree.specs.declared.token.span.Span.{Span}
use Rattle.tree.specs.Term.{Terms, list_terms, indices}
use Rattle.tree.specs.declared.expr.Cond.TheViews.{Call}
use Rattle.tree.specs.declared.expr.Expr.{Expr}
use Rattle.algo.specs.declared.scoping.calls.CallPlace.{CallPlace}
use Rattle.algo.specs.Scoping.Standing.{Written, written, accepts, call_place, list_calls, refused_call, first_refused}
use Rattle.algo.proofs.Rows.{placed_calls-call}
use Rattle.algo.proofs.Standing.{refused_in_two}

module _ (accepted : List ℕ → Terms → Bool) where
  abbrev answer : List (Written × Span) → Option CallPlace
  answer xs = option_map call_place (first_refused (accepts accepted) xs)

  -- the answer of a sum of two parts
  pub answer-two : (o p : Option CallPlace) (xs ys : List (Written × Span)) → o ≡ answer xs → p ≡ answer ys → option_or o p ≡ answer (xs ++ ys)
  answer-two o p xs ys a b = (λ i. option_or (a i) (b i)) ∙ sym (refused_in_two call_place (accepts accepted) xs ys)

  -- of three
  pub answer-three : (o p q : Option CallPlace) (xs ys zs : List (Written × Span)) → o ≡ answer xs → p ≡ answer ys → q ≡ answer zs
      → option_or (option_or o p) q ≡ answer (xs ++ ys ++ zs)
  answer-three o p q xs ys zs a b c = answer-two (option_or o p) q (xs ++ ys) zs (answer-two o p xs ys a b) c

  -- of a call
  pub answer-call : (name : _) (at : Vec Expr) (s : Span) (n : List ℕ) (l k : List Expr) (o p : Option CallPlace) → n ≡ string_bytes name → l ≡ at.items → k ≡ at.items
      → o ≡ answer ((written n (indices (list_terms l)), s) ∷ []) → p ≡ answer (list_calls k) → option_or o p ≡ refused_call accepted (Call name at s)
  answer-call name at s n l k o p named same again a b =
      answer-two o p ((written (string_bytes name) (indices (list_terms at.items)), s) ∷ []) (list_calls at.items)
      (a ∙ (λ i. answer ((written (named i) (indices (list_terms (same i))), s) ∷ [])))
      (b ∙ ap (λ xs. answer (list_calls xs)) again)
      ∙ ap answer (sym (placed_calls-call name at s))
