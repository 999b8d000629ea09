-- Numbers of the coordinates of a store.
use Rattle.std.specs.Prelude.{ℕ, ◌+◌, List, [], ◌∷◌, ℤ, Option, Some}
use Rattle.tree.specs.declared.value.Value.{Value}
use Rattle.plan.specs.declared.stmt.Coordinate.{Coordinate}
use Rattle.plan.specs.View.{coordinate_of}
use Rattle.plan.specs.Symbols.{Symbols}
use Rattle.plan.specs.Semantics.Actions.{Target, Fixed, Open, target, fixed}
use Rattle.plan.specs.Semantics.Found.{with, found}
use Rattle.interpreter.specs.Narrow.{IndexIsNarrow}
use Rattle.interpreter.specs.Needs.{found_indices}

abbrev pub target_of : Symbols → Coordinate → Target
target_of s c = target s (coordinate_of c)

-- a coordinate as far as it is known, 0 where it is found by an expression
abbrev pub known_number : Symbols → Coordinate → ℤ
known_number s c = fixed (target_of s c)

-- the number of a coordinate, which an expression may have to find
abbrev pub target_number : (List ℕ → ℤ) → (List ℕ → List ℤ → Option Value) → Target → Option ℤ
target_number variables look (Fixed z) = Some z
target_number variables look (Open e) = with (found variables look e) (λ v. Some v.number)

-- the form of the coordinate, if it has one, is narrow
abbrev pub CoordinateIsNarrow : Symbols → Coordinate → Type 0
CoordinateIsNarrow s c = IndexIsNarrow s (coordinate_of c).index

-- how many indices the calls have that find the coordinate, and those that find some
abbrev pub indices_of : Coordinate → ℕ
indices_of c = found_indices (coordinate_of c).index

abbrev pub indices_of_all : List Coordinate → ℕ
indices_of_all [] = 0
indices_of_all (c ∷ cs) = indices_of c + indices_of_all cs
