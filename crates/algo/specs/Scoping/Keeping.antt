-- When the left indices of an update keep the places of its function's variables.
use Rattle.std.specs.Prelude.{◌≡◌, ℕ, ◌<◌, List, [], Some, pos, slice_get}
use Rattle.numeric.specs.declared.ty.Ty.TheVariants.{I32}
use Rattle.tree.specs.declared.token.span.Span.{Span}
use Rattle.tree.specs.declared.expr.Expr.{Expr}
use Rattle.tree.specs.Term.{Term, Number, term_of, list_terms}
use Rattle.tree.specs.Place.{span_of}
use Rattle.meaning.specs.Algorithm.{Change, Function}
use Rattle.meaning.specs.Conditions.{KeepsPlace}

-- a function of which only the name and the variables are asked
abbrev pub function_over : List ℕ → List (List ℕ) → Function
function_over n vs = record { name = n; ty = I32; variables = vs; value = Number I32 (pos 0); changes = [] }

-- an update of which only what it sets is asked
abbrev pub setting : Term → Change
setting v = record { ranges = []; at = []; value = v }

-- the left index at place k keeps the place of the variable v, in an update of the function that sets this value
abbrev pub KeepsPlaceOf : List ℕ → List (List ℕ) → Term → ℕ → List ℕ → Term → Type 0
KeepsPlaceOf name variables value k v e = KeepsPlace (function_over name variables) (setting value) k v e

-- each left index below the n-th keeps its variable's place
abbrev pub KeepPlacesBelow : List ℕ → List (List ℕ) → Term → List Term → ℕ → Type 0
KeepPlacesBelow name variables value at n =
    (k : ℕ) → k < n → (v : List ℕ) (e : Term) → slice_get variables k ≡ Some v → slice_get at k ≡ Some e → KeepsPlaceOf name variables value k v e

-- each left index keeps its variable's place
abbrev pub KeepPlaces : List ℕ → List (List ℕ) → Term → List Term → Type 0
KeepPlaces name variables value at =
    (k : ℕ) (v : List ℕ) (e : Term) → slice_get variables k ≡ Some v → slice_get at k ≡ Some e → KeepsPlaceOf name variables value k v e

-- the first left index that does not keep its variable's place stands here in the text
pub record MisplacedAt (name : List ℕ) (variables : List (List ℕ)) (value : Term) (at : List Expr) (s : Span) : Type 0 where
  pub k : ℕ
  pub variable : List ℕ
  pub index : Expr
  pub of : slice_get variables k ≡ Some variable
  pub stands : slice_get at k ≡ Some index
  pub place : s ≡ span_of index
  pub before : KeepPlacesBelow name variables value (list_terms at) k
  pub misplaced : KeepsPlaceOf name variables value k variable (term_of index) → ⊥
