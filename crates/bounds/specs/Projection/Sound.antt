-- What projections promise.
use Rattle.std.specs.Prelude.{◌≡◌, ◌<◌, ℕ, ℤ, false, IsTrue, List, [], ◌∷◌, length, All, Some, MatchOption, slice_get, ◌⊎◌}
use Rattle.numeric.specs.Wrap.{IsOf}
use Rattle.numeric.specs.declared.ty.Ty.TheVariants.{I32}
use Rattle.lin.specs.Spans.{HoldsIn, IsInSpan, IsInRegion}
use Rattle.lin.specs.declared.scope.Binding.{Binding}
use Rattle.lin.specs.declared.span.Span1.{Span1}
use Rattle.bounds.specs.Projection.Elimination.{is_inner, names_inner}
use Rattle.bounds.specs.Projection.Lets.{is_let_over}

-- two assignments differ at inner symbols alone
abbrev pub AgreeOutside : List ℕ → (ℕ → ℤ) → (ℕ → ℤ) → Type 0
AgreeOutside inner v w = (n : ℕ) → is_inner inner n ≡ false → v n ≡ w n

-- no form of the span names an inner symbol
abbrev pub IsOuterSpan : List ℕ → Span1 → Type 0
IsOuterSpan inner s = All (λ f. names_inner inner f ≡ false) s.lower × All (λ f. names_inner inner f ≡ false) s.upper

abbrev pub IsOuter : List ℕ → List Span1 → Type 0
IsOuter inner region = All (IsOuterSpan inner) region

-- what lies in a span, at any values of the inner symbols, lies in the other at the values of the outer ones alone
abbrev pub HoldsSpan : List Binding → List ℕ → Span1 → Span1 → Type 0
HoldsSpan scope inner s found = (v w : ℕ → ℤ) (z : ℤ) → HoldsIn scope v → AgreeOutside inner v w → IsInSpan s v z → IsInSpan found w z

abbrev pub HoldsRegion : List Binding → List ℕ → List Span1 → List Span1 → Type 0
HoldsRegion scope inner region found = (v w : ℕ → ℤ) (p : List ℤ) → HoldsIn scope v → AgreeOutside inner v w → IsInRegion region v p → IsInRegion found w p

-- each point of i32 coordinates of each region, all of which have as many coordinates, lies in the other
abbrev pub HoldsAll : List Binding → List (List Span1) → List Span1 → Type 0
HoldsAll scope regions found = (v : ℕ → ℤ) (p : List ℤ) → HoldsIn scope v → All (IsOf I32) p → All (λ r. length r ≡ length p) regions
    → All (λ r. IsInRegion r v p → IsInRegion found v p) regions

-- inner are just the given loops and each let over an inner symbol before it
pub record AreInner (scope : List Binding) (loops inner : List ℕ) : Type 0 where
  pub given : (n : ℕ) → IsTrue (is_inner loops n) → IsTrue (is_inner inner n)
  pub lets : (n m : ℕ) (binding : Binding) → slice_get scope n ≡ Some binding → IsTrue (is_let_over (m ∷ []) binding) → m < n → IsTrue (is_inner inner m) → IsTrue (is_inner inner n)
  pub only : (n : ℕ) → IsTrue (is_inner inner n) → IsTrue (is_inner loops n) ⊎ MatchOption (slice_get scope n) ⊥ (λ binding. IsTrue (is_let_over inner binding))
