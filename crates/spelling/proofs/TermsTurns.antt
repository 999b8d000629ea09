-- The turns of reading the indices of a call.
use Rattle.std.proofs.Common.{◌≡◌, ℕ, suc, ◌+◌, ◌-◌, ◌≤◌, ◌<◌, true, false, List, [], ◌∷◌, ◌++◌, drop, refl, sym, ap, ◌∙◌, arith}
use Rattle.std.proofs.lemmas.List.{map-append}
use Rattle.tree.specs.declared.expr.Expr.{Expr}
use Rattle.tree.specs.Term.{Term, term_of, list_terms}
use Rattle.spelling.specs.Words.Reading.{begins}
use Rattle.spelling.specs.Terms.Reading.{Reader, row_at}

left_is : (limit i : ℕ) → i < limit → limit - i ≡ suc (limit - (i + 1))
left_is limit i lt = omega arith

none_left : (limit i : ℕ) → limit ≤ i → limit - i ≡ 0
none_left limit i le = omega arith

pub pushed : (found more : List Expr) (e : Expr) (a : Term) → more ≡ found ++ e ∷ [] → term_of e ≡ a → list_terms more ≡ list_terms found ++ a ∷ []
pushed found more e a is same = ap list_terms is ∙ map-append term_of found (e ∷ []) ∙ ap (λ b. list_terms found ++ b ∷ []) same

module _ (inner : Reader) (limit i : ℕ) (found : List Term) (text : List ℕ) (total : List Term × List ℕ) (so_far : row_at inner (limit - i) found text ≡ total) where
  pub row_ends : i < limit → begins 44 (inner.term text).1 ≡ false → total ≡ (found ++ (inner.term text).0 ∷ [], (inner.term text).1)
  unfolding row_at
  row_ends lt none =
      let one : row_at inner (limit - i) found text ≡ (found ++ (inner.term text).0 ∷ [], (inner.term text).1) = rw (left_is limit i lt, none) refl in
      sym so_far ∙ one

  pub row_goes_on : i < limit → begins 44 (inner.term text).1 ≡ true → row_at inner (limit - (i + 1)) (found ++ (inner.term text).0 ∷ []) (drop 1 (inner.term text).1) ≡ total
  unfolding row_at
  row_goes_on lt some =
      let one : row_at inner (limit - i) found text ≡ row_at inner (limit - (i + 1)) (found ++ (inner.term text).0 ∷ []) (drop 1 (inner.term text).1) = rw (left_is limit i lt, some) refl in
      sym one ∙ so_far

  pub row_is_done : limit ≤ i → total ≡ (found, text)
  unfolding row_at
  row_is_done le = let one : row_at inner (limit - i) found text ≡ (found, text) = rw (none_left limit i le) refl in sym so_far ∙ one
