-- Laws of forms and scopes, each of them the contract of a function.
use Rattle.std.specs.Prelude.{◌≡◌, ℕ, ℤ, ◌+ℤ◌, ◌*ℤ◌, ◌↔◌, List, [], ◌∷◌, ◌++◌, length, All}
use Rattle.lin.specs.Forms.{Form, value_of, plus_multiple}
use Rattle.lin.specs.Spans.{Holds, HoldsIn}
use Rattle.lin.specs.declared.scope.Binding.{Binding}

-- a form and a multiple of another have the value of the one and that multiple of the other's
abbrev pub SumLaw : Type 0
SumLaw = (a : Form) (k : ℤ) (b : Form) (v : ℕ → ℤ) → value_of (plus_multiple a k b) v ≡ value_of a v +ℤ k *ℤ value_of b v

-- the value of a form depends on the symbols of its terms alone
abbrev pub ValueIsOfTerms : Type 0
ValueIsOfTerms = (form : Form) (v w : ℕ → ℤ) → All (λ t. v t.symbol ≡ w t.symbol) form.terms → value_of form v ≡ value_of form w

-- an assignment fits a scope with one symbol more where it fits the scope and what is known of that symbol
abbrev pub NextSymbol : Type 0
NextSymbol = (scope : List Binding) (next : Binding) (v : ℕ → ℤ) → HoldsIn (scope ++ next ∷ []) v ↔ (HoldsIn scope v × Holds next (v (length scope)) v)
