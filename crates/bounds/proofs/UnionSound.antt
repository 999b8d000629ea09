-- The union of regions holds the points of each.
use Rattle.std.proofs.Common.{◌≡◌, ℕ, List, [], ◌∷◌, length, refl, sym, inl}
use Rattle.std.specs.Prelude.{ℤ, map, Option, Some}
use Rattle.std.specs.List.{AllByRecursion}
use Rattle.std.proofs.lemmas.List.Elements.{recursion_from_All, All-from_recursion}
use Rattle.numeric.specs.Wrap.{IsOf}
use Rattle.numeric.specs.declared.ty.Ty.TheVariants.{I32}
use Rattle.lin.specs.Spans.{HoldsIn, IsInRegion}
use Rattle.lin.specs.declared.scope.Binding.{Binding}
use Rattle.lin.specs.declared.span.Span1.{Span1}
use Rattle.bounds.specs.Projection.Unions.{united}
use Rattle.bounds.proofs.UnionHolds.{HasLength, Reaches, length_some, holds_some, fold-holds}
use Rattle.bounds.specs.Projection.Sound.{HoldsAll}

abbrev each : List (List Span1) → List (Option (List Span1))
each regions = map (λ (r : List Span1). Some r) regions

lengths : (n : ℕ) (regions : List (List Span1)) → AllByRecursion (λ r. length r ≡ n) regions → AllByRecursion (HasLength n) (each regions)
lengths n [] h = tt
lengths n (r ∷ rs) h = (length_some r n h.0, lengths n rs h.1)

reached : (scope : List Binding) (v : ℕ → ℤ) (r : HoldsIn scope v) (n : ℕ) (regions : List (List Span1)) (found : List Span1) (p : List ℤ) (whole : Option (List Span1)) → whole ≡ Some found
    → AllByRecursion (λ z. IsOf I32 z) p → length p ≡ n → AllByRecursion (Reaches scope v r n whole) (each regions) → AllByRecursion (λ s. IsInRegion s v p → IsInRegion found v p) regions
reached scope v r n [] found p whole e i l h = tt
reached scope v r n (s ∷ ss) found p whole e i l h = ((λ lies. h.0 p i l (holds_some s v p lies) found e), reached scope v r n ss found p whole e i l h.1)

pub united-holds : (scope : List Binding) (regions : List (List Span1)) (found : List Span1) → united scope (map (λ (r : List Span1). Some r) regions) ≡ Some found → HoldsAll scope regions found
united-holds scope regions found e = λ v p r i same.
    All-from_recursion (λ (s : List Span1). IsInRegion s v p → IsInRegion found v p) regions
    (reached scope v r (length p) regions found p (united scope (each regions)) e (recursion_from_All (λ (z : ℤ). IsOf I32 z) p i) refl
    (fold-holds scope v r (length p) (Some []) (each regions) (lengths (length p) regions (recursion_from_All (λ (s : List Span1). length s ≡ length p) regions same)) (λ s d. inl (sym (some_region [] s d)))))
  where
    some_region : (x y : List Span1) → Some x ≡ Some y → x ≡ y
    some_region x y d = cc
