-- Forms of two dimensions of a region, added.
use Rattle.std.specs.Prelude.{◌≡◌, ℕ, List, ℤ, ◌+ℤ◌, ◌<ℤ◌}
use Rattle.lin.specs.Forms.{Form, value_of}
use Rattle.plan.specs.Symbols.{Symbols}
use Rattle.plan.specs.Certificate.Cells.{grid_symbols}
use Rattle.shares.specs.Corners.{IsBetween}

-- a form that always comes to what two others come to
abbrev pub IsSumOf : Form → Form → Form → Type 0
IsSumOf sum a b = (v : ℕ → ℤ) → value_of sum v ≡ value_of a v +ℤ value_of b v

-- what is less than another thing at each grid point between two
abbrev pub StaysBelow : (low high : List ℕ) → (Symbols → ℤ) → (Symbols → ℤ) → Type 0
StaysBelow low high f g = (at : List ℕ) → IsBetween low high at → f (grid_symbols at) <ℤ g (grid_symbols at)
