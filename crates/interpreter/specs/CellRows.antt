-- Rows of cells: what a function has at points side by side along the first coordinate.
use Rattle.std.specs.Prelude.{◌≡◌, ℕ, ◌<◌, List, [], ◌∷◌, length, ℤ, pos, ◌+ℤ◌, get_or}
use Rattle.numeric.specs.Wrap.{wrap}
use Rattle.numeric.specs.declared.ty.Ty.{Ty}
use Rattle.tree.specs.declared.value.Value.{Value}
use Rattle.tree.specs.Meaning.{typed}
use Rattle.interpreter.specs.declared.cells.CellRow.{CellRow}
use Rattle.interpreter.specs.declared.cells.NumberKind.TheVariants.{Exact, Bits}
use Rattle.interpreter.specs.declared.cells.NumberKind.{NumberKind}

-- the value of the type that a number tells
abbrev pub told_value : NumberKind → Ty → ℤ → Value
told_value Exact ty z = typed ty z
told_value Bits ty z = typed ty (wrap ty z)

-- the number at a place, 0 behind the last
abbrev pub number_told : List ℤ → ℕ → ℤ
number_told zs k = get_or zs k (pos 0)

-- the value at a place of a row
abbrev pub row_value : CellRow → ℕ → Value
row_value row k = told_value row.kind row.ty (number_told row.numbers.now k)

-- the point so many steps further along the first coordinate
abbrev pub along : List ℤ → ℕ → List ℤ
along [] k = []
along (z ∷ zs) k = (z +ℤ pos k) ∷ zs

-- the row has what a function has at so many points, from one on along the first coordinate
pub record IsRow (cell : List ℕ → List ℤ → Value) (name : List ℕ) (at : List ℤ) (count : ℕ) (row : CellRow) : Type 0 where
  pub long : length row.numbers.now ≡ count
  pub values : (k : ℕ) → k < count → row_value row k ≡ cell name (along at k)
