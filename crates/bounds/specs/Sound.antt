-- What an interval promises.
use Rattle.std.specs.Prelude.{ℕ, ℤ, List, map, Bool, Option}
use Rattle.numeric.specs.declared.ty.Ty.{Ty}
use Rattle.tree.specs.declared.value.Value.{Value}
use Rattle.tree.specs.Term.{Term}
use Rattle.tree.specs.Meaning.{value_of}
use Rattle.tree.specs.Names.{AreAsTold}
use Rattle.lin.specs.Spans.{HoldsIn, IsInSpan, IsInRegion}
use Rattle.lin.specs.declared.scope.Binding.{Binding}
use Rattle.lin.specs.declared.span.Span1.{Span1}

-- wherever the symbols fit their scope, the variables are i32 values, those of the region's names the coordinates of a
-- point of it, and calls answer values of their types, the value lies in the span
abbrev pub Contains : List Binding → (List ℕ → Bool) → (List ℕ → Option (Ty × ℕ)) → List (List ℕ) → List Span1 → Term → Span1 → Type 0
Contains scope variables functions names region term span =
    (v : ℕ → ℤ) (numbers : List ℕ → ℤ) (answers : List ℕ → List ℤ → Value)
    → HoldsIn scope v → AreAsTold variables functions numbers answers → IsInRegion region v (map numbers names)
    → IsInSpan span v (value_of numbers answers term).number
