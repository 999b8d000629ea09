-- What pieces fetch, among the own cells of the pieces that they need.
use Rattle.std.specs.Prelude.{ℕ, List, Contains}

-- the cell is an own cell of one of these pieces
abbrev pub IsOwnOf : (ℕ → List ℕ) → List ℕ → ℕ → Type 0
IsOwnOf own needs cell = (needed : ℕ) × Contains needs needed × Contains (own needed) cell
