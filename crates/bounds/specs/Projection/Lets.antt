-- The symbols of some loops, with those of the lets over them.
use Rattle.std.specs.Prelude.{ℕ, zero, suc, Bool, if◌then◌else◌, List, [], ◌∷◌, ◌++◌, length, Option, Some, None, slice_get}
use Rattle.std.specs.List.{list_any}
use Rattle.lin.specs.Forms.{Form}
use Rattle.lin.specs.declared.scope.Binding.{Binding}
use Rattle.lin.specs.declared.scope.Binding.TheVariants.{Loop, LetMin, LetMax}
use Rattle.bounds.specs.Projection.Elimination.{names_inner}

-- the forms of a let; a loop has none
abbrev pub let_forms : Binding → List Form
let_forms (Loop span) = []
let_forms (LetMin forms) = forms
let_forms (LetMax forms) = forms

-- whether a binding is that of a let over one of some symbols
abbrev pub is_let_over : List ℕ → Binding → Bool
is_let_over symbols binding = list_any (λ f. names_inner symbols f) (let_forms binding)

-- some symbols, and symbol n where it is a let over one of them
abbrev pub with_let : List ℕ → ℕ → Option Binding → List ℕ
with_let symbols n None = symbols
with_let symbols n (Some binding) = if is_let_over symbols binding then symbols ++ n ∷ [] else symbols

module _ (scope : List Binding) (loops : List ℕ) where
  -- some loops, and the lets over them among the symbols below n
  abbrev pub with_lets_below : ℕ → List ℕ
  with_lets_below zero = loops
  with_lets_below (suc n) = with_let (with_lets_below n) n (slice_get scope n)

  -- and among all
  abbrev pub with_lets : List ℕ
  with_lets = with_lets_below (length scope)
