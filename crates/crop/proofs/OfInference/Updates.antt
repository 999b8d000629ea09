-- The regions of a function's definitions, united one after the other.
use Rattle.std.proofs.Common.{◌≡◌, ◌<◌, ◌+◌, ℕ, suc, List, [], ◌∷◌, length, map, take, drop, drop-cons, get_or, add-one, Option, Some, sym, ap, ◌∙◌, subst}
use Rattle.std.specs.Prelude.{fold, flat_map}
use Rattle.std.proofs.lemmas.List.Sums.{fold-append}
use Rattle.tree.specs.Term.{Term}
use Rattle.meaning.specs.Algorithm.{Change, Algorithm}
use Rattle.meaning.specs.Conditions.{callable}
use Rattle.algo.specs.Scoping.Standing.{calls_of}
use Rattle.algo.specs.declared.function.Update.{Update}
use Rattle.algo.specs.Parts.{change_of}
use Rattle.lin.specs.declared.scope.Binding.{Binding}
use Rattle.lin.specs.declared.span.Span1.{Span1}
use Rattle.bounds.specs.Projection.Unions.{with_region, united}
use Rattle.crop.specs.Inference.Regions.{regions_of}
use Rattle.crop.specs.Inference.Needed.{callable_before, with_domain, names_beside, left_regions, right_regions, update_regions, pure_regions}

module _ (scope : List Binding) (inner : List ℕ) (a : Algorithm) (k : ℕ) (callee : List ℕ) (region : List Span1) where
  pub pure_fold : (variables names : List (List ℕ)) (value : Term) (new : List Span1) → new ≡ [] → names ≡ variables
      → fold (with_region scope) (Some new) (regions_of scope (callable_before a k) names region inner callee (calls_of value)) ≡ united scope (pure_regions scope inner a k callee region variables value)
  pure_fold variables names value new none same = λ i. fold (with_region scope) (Some (none i)) (regions_of scope (callable_before a k) (same i) region inner callee (calls_of value))

  pub update_fold : (variables names others : List (List ℕ)) (u : Change) (at : List Term) (count : ℕ) (spans : List Span1) (known here : Option (List Span1))
      → names ≡ names_beside variables u.ranges → others ≡ names_beside variables u.ranges → at ≡ u.at → count ≡ suc k → spans ≡ with_domain region u.ranges
      → here ≡ fold (with_region scope) known (flat_map (λ e. regions_of scope (callable_before a k) names spans inner callee (calls_of e)) at)
      → fold (with_region scope) here (regions_of scope (callable a (take count a.functions)) others spans inner callee (calls_of u.value)) ≡ fold (with_region scope) known (update_regions scope inner a k callee region variables u)
  update_fold variables names others u at count spans known here same other left next span is =
      (λ i. fold (with_region scope) (is i) (regions_of scope (callable a (take (next i) a.functions)) (other i) (span i) inner callee (calls_of u.value)))
      ∙ (λ i. fold (with_region scope) (fold (with_region scope) known (flat_map (λ e. regions_of scope (callable_before a k) (same i) (span i) inner callee (calls_of e)) (left i))) (right_regions scope inner a k callee region variables u.ranges u.value))
      ∙ sym (fold-append (with_region scope) known (left_regions scope inner a k callee region variables u.ranges u.at) (right_regions scope inner a k callee region variables u.ranges u.value))

module _ (scope : List Binding) (regions : Change → List (Option (List Span1))) where
  abbrev Rest : Option (List Span1) → List Update → Option (List Span1)
  Rest found us = fold (with_region scope) found (flat_map regions (map change_of us))

  next_update : (us : List Update) (i : ℕ) (x : Update) (found more : Option (List Span1)) → i < length us → x ≡ get_or us i x
      → more ≡ fold (with_region scope) found (regions (change_of x)) → Rest more (drop (i + 1) us) ≡ Rest found (drop i us)
  next_update us i x found more lt is made =
      let e : drop i us ≡ x ∷ drop (i + 1) us = drop-cons us i x lt ∙ (λ j. sym is j ∷ drop (sym (add-one i) j) us) in
      ap (λ o. Rest o (drop (i + 1) us)) made
      ∙ sym (fold-append (with_region scope) found (regions (change_of x)) (flat_map regions (map change_of (drop (i + 1) us))))
      ∙ ap (Rest found) (sym e)

  pub one_update : (us items : List Update) (i : ℕ) (x : Update) (found more : Option (List Span1)) → items ≡ us → i < length items → x ≡ get_or items i x
      → more ≡ fold (with_region scope) found (regions (change_of x)) → Rest more (drop (i + 1) us) ≡ Rest found (drop i us)
  one_update us items i x found more same lt is made =
      let P : List Update → Type 0 = λ l. Rest more (drop (i + 1) l) ≡ Rest found (drop i l) in
      subst P same (next_update items i x found more lt is made)
