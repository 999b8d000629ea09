-- What a call finds, by what its first index finds and by the numbers of the others.
use Rattle.std.proofs.Common.{◌≡◌, ◌≤◌, ◌-◌, ℕ, List, [], ◌∷◌, length, get_or, take, drop, refl, sym, ap, ◌∙◌, arith, ℤ, Option, Some, None}
use Rattle.numeric.specs.declared.ty.Ty.{Ty}
use Rattle.plan.specs.Semantics.Found.{found, all_found, with}
use Rattle.tree.specs.Term.{term_of, list_terms, indices}
use Rattle.tree.specs.declared.value.Value.{Value}
use Rattle.tree.specs.declared.expr.Expr.{Expr}
use Rattle.interpreter.specs.Evaluation.Lanes.{found_as}
use Rattle.interpreter.proofs.Summing.{rest_of}

-- the number in front of others
listed : (o : Option Value) (others : List ℤ) (go : List ℤ → Option Value) → with (with o (λ x. Some (x.number ∷ others))) go ≡ with o (λ x. go (x.number ∷ others))
listed None others go = refl
listed (Some x) others go = refl

-- the numbers that indices are found to have
module _ (variables : List ℕ → ℤ) (look : List ℕ → List ℤ → Option Value) where
  abbrev Found : List Expr → Option (List ℤ)
  Found es = all_found variables look (indices (list_terms es))

  pub found_none : (es : List Expr) → length es ≡ 0 → Found es ≡ Some []
  found_none [] long = refl
  found_none (p ∷ es) long = absurd (omega (arith, long))

  pub found_only : (es : List Expr) (a : Expr) (y : Value) → length es ≡ 1 → a ≡ get_or es 0 a → found variables look (term_of a) ≡ Some y → Found es ≡ Some (y.number ∷ [])
  found_only [] a y long is h = absurd (omega (arith, long))
  found_only (p ∷ []) a y long is h =
      let there : found variables look (term_of p) ≡ Some y = ap (λ (e : Expr). found variables look (term_of e)) (sym is) ∙ h in
      ap (λ (o : Option Value). with o (λ x. Some (x.number ∷ []))) there
  found_only (p ∷ q ∷ rest) a y long is h = absurd (omega (arith, long))

  pub found_two : (es : List Expr) (a b : Expr) (y z : Value) → length es ≡ 2 → a ≡ get_or es 0 a → b ≡ get_or es 1 b →
      found variables look (term_of a) ≡ Some y → found variables look (term_of b) ≡ Some z → Found es ≡ Some (y.number ∷ z.number ∷ [])
  found_two [] a b y z long is same h k = absurd (omega (arith, long))
  found_two (p ∷ []) a b y z long is same h k = absurd (omega (arith, long))
  found_two (p ∷ q ∷ []) a b y z long is same h k =
      let first : found variables look (term_of p) ≡ Some y = ap (λ (e : Expr). found variables look (term_of e)) (sym is) ∙ h in
      let second : found variables look (term_of q) ≡ Some z = ap (λ (e : Expr). found variables look (term_of e)) (sym same) ∙ k in
      (λ i. with (first i) (λ u. with (with (second i) (λ v. Some (v.number ∷ []))) (λ zs. Some (u.number ∷ zs))))
  found_two (p ∷ q ∷ r ∷ rest) a b y z long is same h k = absurd (omega (arith, long))

module _ (variables : List ℕ → ℤ) (look : List ℕ → List ℤ → Option Value) (cast : Option Ty) (name : List ℕ) where
  -- what is found where the first index is this and these are the others
  abbrev FoundAlong : Expr → List ℤ → Option Value
  FoundAlong a others = found_as cast (with (found variables look (term_of a)) (λ x. look name (x.number ∷ others)))

  abbrev FoundAt : List Expr → Option Value
  FoundAt at = found_as cast (with (all_found variables look (indices (list_terms at))) (λ zs. look name zs))

  pub of_first : (at : List Expr) (a : Expr) (zs : List ℤ) → 1 ≤ length at → a ≡ get_or at 0 a → all_found variables look (indices (list_terms (take (length at - 1) (drop 1 at)))) ≡ Some zs →
      FoundAt at ≡ FoundAlong a zs
  of_first [] a zs long is h = absurd (omega (arith, long))
  of_first (p ∷ rest) a zs long is h =
      let there : all_found variables look (indices (list_terms rest)) ≡ Some zs = ap (λ (es : List Expr). all_found variables look (indices (list_terms es))) (sym (rest_of p rest)) ∙ h in
      ap (λ (o : Option (List ℤ)). found_as cast (with (with (found variables look (term_of p)) (λ x. with o (λ ys. Some (x.number ∷ ys)))) (λ ys. look name ys))) there
      ∙ ap (found_as cast) (listed (found variables look (term_of p)) zs (look name))
      ∙ ap (λ (e : Expr). FoundAlong e zs) (sym is)
