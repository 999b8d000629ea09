-- What stands on a sheet: the bits of the cells' values, as far as they are put.
use Rattle.std.specs.Prelude.{◌≡◌, ℕ, ◌+◌, ◌<◌, ℤ, List, map, Contains, slice_index}
use Rattle.board.specs.Layout.{Layout, own_of, pieces_of, value_at}
use Rattle.board.specs.Words.{bits_of}

-- the cell has the bits of its value
abbrev pub HasBits : List ℤ → List ℕ → ℕ → Type 0
HasBits values bits c = slice_index bits c ≡ bits_of (value_at values c)

-- so many cells that follow each other, from one on, have the bits of their values
abbrev pub HasRow : List ℤ → List ℕ → ℕ → ℕ → Type 0
HasRow values bits first count = (k : ℕ) → k < count → HasBits values bits (first + k)

-- bits, from a place of a list on, are those of the values of so many cells that follow each other, from one on
abbrev pub AreOfRow : List ℤ → List ℕ → ℕ → ℕ → ℕ → Type 0
AreOfRow values bits from first count = (k : ℕ) → k < count → slice_index bits (from + k) ≡ bits_of (value_at values (first + k))

-- the bits of the values of these cells
abbrev pub bits_at : List ℤ → List ℕ → List ℕ
bits_at values cells = map (λ c. bits_of (value_at values c)) cells

-- all own cells of piece j have theirs
abbrev pub IsPut : Layout → List ℤ → List ℕ → ℕ → Type 0
IsPut plan values bits j = (c : ℕ) → Contains (own_of plan j) c → HasBits values bits c

-- the cell is an own cell of a piece that is put
abbrev pub IsPutCell : Layout → List ℤ → List ℕ → ℕ → Type 0
IsPutCell plan values bits c = (j : ℕ) × (j < pieces_of plan) × IsPut plan values bits j × Contains (own_of plan j) c
