-- Values, spans and regions under an assignment, which gives each symbol a whole number.
use Rattle.std.specs.Prelude.{◌≡◌, ℕ, ℤ, ◌≤ℤ◌, List, [], ◌∷◌, Some, All, Any, slice_get}
use Rattle.lin.specs.Forms.{Form, value_of}
use Rattle.lin.specs.declared.span.Span1.{Span1}
use Rattle.lin.specs.declared.scope.Binding.{Binding}
use Rattle.lin.specs.declared.scope.Binding.TheVariants.{Loop, LetMin, LetMax}

-- z is the smallest of the forms' values
abbrev pub IsLeast : List Form → (ℕ → ℤ) → ℤ → Type 0
IsLeast forms v z = All (λ f. z ≤ℤ value_of f v) forms × Any (λ f. value_of f v ≡ z) forms

-- z is the largest of the forms' values
abbrev pub IsGreatest : List Form → (ℕ → ℤ) → ℤ → Type 0
IsGreatest forms v z = All (λ f. value_of f v ≤ℤ z) forms × Any (λ f. value_of f v ≡ z) forms

-- z is at least each lower form and at most each upper one: a side without forms bounds nothing
abbrev pub IsInSpan : Span1 → (ℕ → ℤ) → ℤ → Type 0
IsInSpan span v z = All (λ f. value_of f v ≤ℤ z) span.lower × All (λ f. z ≤ℤ value_of f v) span.upper

-- the point has a coordinate for each span, and each lies in its span
abbrev pub IsInRegion : List Span1 → (ℕ → ℤ) → List ℤ → Type 0
IsInRegion [] v [] = Unit {0}
IsInRegion [] v (z ∷ zs) = ⊥
IsInRegion (s ∷ ss) v [] = ⊥
IsInRegion (s ∷ ss) v (z ∷ zs) = IsInSpan s v z × IsInRegion ss v zs

-- z fits what is known of a symbol
abbrev pub Holds : Binding → ℤ → (ℕ → ℤ) → Type 0
Holds (Loop span) z v = IsInSpan span v z
Holds (LetMin forms) z v = IsLeast forms v z
Holds (LetMax forms) z v = IsGreatest forms v z

-- the assignment gives each symbol of a scope a value that fits what is known of it
abbrev pub HoldsIn : List Binding → (ℕ → ℤ) → Type 0
HoldsIn scope v = (n : ℕ) (binding : Binding) → slice_get scope n ≡ Some binding → Holds binding (v n) v
