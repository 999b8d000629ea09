-- Unions over lists put together, and regions made from the front.
use Rattle.std.proofs.Common.{◌≡◌, ◌<◌, ◌+◌, ℕ, List, [], ◌∷◌, ◌++◌, length, take, get_or, Option, sym, ap, ◌∙◌}
use Rattle.std.specs.Prelude.{map, filter, fold, string_bytes}
use Rattle.std.specs.Global.{Vec}
use Rattle.std.proofs.lemmas.List.{map-append, append_assoc, take_more}
use Rattle.std.proofs.lemmas.List.Elements.{filter-append}
use Rattle.std.proofs.lemmas.List.Sums.{fold-append}
use Rattle.numeric.specs.declared.ty.Ty.{Ty}
use Rattle.meaning.specs.Names.{same_name}
use Rattle.tree.specs.declared.expr.Expr.{Expr}
use Rattle.tree.specs.declared.expr.Cond.TheViews.{Call}
use Rattle.tree.specs.Term.{term_of, list_terms, indices}
use Rattle.tree.proofs.Rows.{term_of-call}
use Rattle.algo.specs.Scoping.Standing.{Written, written, calls_of, calls_of_all}
use Rattle.algo.specs.declared.function.Range.{Range}
use Rattle.algo.specs.Parts.{range_of}
use Rattle.lin.specs.declared.scope.Binding.{Binding}
use Rattle.lin.specs.declared.span.Span1.{Span1}
use Rattle.bounds.specs.Spans.{numbers}
use Rattle.crop.specs.Inference.Needed.{with_domain}
use Rattle.crop.specs.Inference.Regions.{spans_at, freed, regions_of}
use Rattle.bounds.specs.Projection.Unions.{with_region}

-- one range more
pub more_domain : (region made : List Span1) (ranges : List Range) (i : ℕ) (x : Range) (span : Span1) → i < length ranges → x ≡ get_or ranges i x → span ≡ numbers x.low x.high
    → made ≡ with_domain region (map range_of (take i ranges)) → made ++ span ∷ [] ≡ with_domain region (map range_of (take (i + 1) ranges))
more_domain region made ranges i x span lt is same so_far =
    (λ j. so_far j ++ same j ∷ [])
    ∙ append_assoc region (map (λ d. numbers d.low d.high) (map range_of (take i ranges))) (numbers x.low x.high ∷ [])
    ∙ ap (λ l. region ++ l) (sym (map-append (λ d. numbers d.low d.high) (map range_of (take i ranges)) (range_of x ∷ [])))
    ∙ ap (λ l. with_domain region l) (sym (map-append range_of (take i ranges) (x ∷ [])))
    ∙ (λ j. with_domain region (map range_of (take i ranges ++ is j ∷ [])))
    ∙ ap (λ l. with_domain region (map range_of l)) (sym (take_more ranges i x lt))

module _ (scope : List Binding) (functions : List ℕ → Option (Ty × ℕ)) (names : List (List ℕ)) (region : List Span1) (inner callee : List ℕ) where
  pub regions_of_both : (xs ys : List Written) → regions_of scope functions names region inner callee (xs ++ ys)
      ≡ regions_of scope functions names region inner callee xs ++ regions_of scope functions names region inner callee ys
  regions_of_both xs ys =
      ap (map (λ c. freed scope inner (spans_at scope functions names region c.at))) (filter-append (λ c. same_name c.name callee) xs ys)
      ∙ map-append (λ (c : Written). freed scope inner (spans_at scope functions names region c.at)) (filter (λ c. same_name c.name callee) xs) (filter (λ c. same_name c.name callee) ys)

  -- the calls of two parts, one after the other
  pub fold_of_two : (known : Option (List Span1)) (xs ys : List Written) → fold (with_region scope) known (regions_of scope functions names region inner callee (xs ++ ys))
      ≡ fold (with_region scope) (fold (with_region scope) known (regions_of scope functions names region inner callee xs)) (regions_of scope functions names region inner callee ys)
  fold_of_two known xs ys = ap (fold (with_region scope) known) (regions_of_both xs ys) ∙ fold-append (with_region scope) known (regions_of scope functions names region inner callee xs) (regions_of scope functions names region inner callee ys)

  pub fold_of_three : (known : Option (List Span1)) (xs ys zs : List Written) → fold (with_region scope) known (regions_of scope functions names region inner callee (xs ++ ys ++ zs))
      ≡ fold (with_region scope) (fold (with_region scope) (fold (with_region scope) known (regions_of scope functions names region inner callee xs)) (regions_of scope functions names region inner callee ys)) (regions_of scope functions names region inner callee zs)
  fold_of_three known xs ys zs =
      fold_of_two known (xs ++ ys) zs ∙ ap (λ k. fold (with_region scope) k (regions_of scope functions names region inner callee zs)) (fold_of_two known xs ys)

  -- a call, and then the calls in its indices
  pub fold_of_call : (known here : Option (List Span1)) (name : _) (at : Vec Expr) (s : _) (n : List ℕ) (l k : List Expr) → n ≡ string_bytes name → l ≡ at.items → k ≡ at.items
      → here ≡ fold (with_region scope) known (regions_of scope functions names region inner callee (written n (indices (list_terms l)) ∷ []))
      → fold (with_region scope) here (regions_of scope functions names region inner callee (calls_of_all (indices (list_terms k))))
      ≡ fold (with_region scope) known (regions_of scope functions names region inner callee (calls_of (term_of (Call name at s))))
  fold_of_call known here name at s n l k named first second is =
      (λ i. fold (with_region scope) (is i) (regions_of scope functions names region inner callee (calls_of_all (indices (list_terms (second i))))))
      ∙ (λ i. fold (with_region scope) (fold (with_region scope) known (regions_of scope functions names region inner callee (written (named i) (indices (list_terms (first i))) ∷ []))) (regions_of scope functions names region inner callee (calls_of_all (indices (list_terms at.items)))))
      ∙ sym (ap (λ e. fold (with_region scope) known (regions_of scope functions names region inner callee (calls_of e))) (term_of-call name at s)
      ∙ fold_of_two known (written (string_bytes name) (indices (list_terms at.items)) ∷ []) (calls_of_all (indices (list_terms at.items))))
