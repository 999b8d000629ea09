-- A table of owners, as far as it is filled: for each cell the piece whose own it is.
use Rattle.std.specs.Prelude.{◌≡◌, ℕ, ◌<◌, ◌⊎◌, Option, Some, None, List, length, slice_get, slice_index, slice_index_or, Contains}

-- place b of piece q comes before place a of piece p
abbrev pub IsBefore : ℕ → ℕ → ℕ → ℕ → Type 0
IsBefore q b p a = (q < p) ⊎ ((q ≡ p) × (b < a))

-- The own cells before place a of piece p have their pieces as owners, and no other cell has one. They are apart.
pub record IsClaimed (own : ℕ → List ℕ) (owners : List (Option ℕ)) (p a : ℕ) : Type 0 where
  pub each : (q b : ℕ) → b < length (own q) → IsBefore q b p a → slice_index_or owners (slice_index (own q) b) None ≡ Some q
  pub only : (cell q : ℕ) → slice_index_or owners cell None ≡ Some q → (b : ℕ) × (b < length (own q)) × IsBefore q b p a × (slice_index (own q) b ≡ cell)
  pub apart : (q b r c : ℕ) → b < length (own q) → c < length (own r) → IsBefore q b p a → IsBefore r c p a → slice_index (own q) b ≡ slice_index (own r) c → (q ≡ r) × (b ≡ c)

-- The table has the owner of each own cell of so many pieces, and of no other cell.
abbrev pub IsClaimedBy : (ℕ → List ℕ) → List (Option ℕ) → ℕ → Type 0
IsClaimedBy own owners pieces = IsClaimed own owners pieces 0

-- the owner of the cell is one of these pieces
abbrev pub HasOwnerAmong : List (Option ℕ) → List ℕ → ℕ → Type 0
HasOwnerAmong owners needs cell = (piece : ℕ) × (slice_get owners cell ≡ Some (Some piece)) × Contains needs piece

-- the owner of the cell has this piece's mark
abbrev pub HasMarkedOwner : List (Option ℕ) → List (Option ℕ) → ℕ → ℕ → Type 0
HasMarkedOwner owners marks piece cell = (owner : ℕ) × (slice_get owners cell ≡ Some (Some owner)) × (slice_get marks owner ≡ Some (Some piece))

-- no piece from this one on has marked anything
abbrev pub IsMarkedBefore : List (Option ℕ) → ℕ → Type 0
IsMarkedBefore marks piece = (n q : ℕ) → slice_index_or marks n None ≡ Some q → q < piece

-- the pieces with this piece's mark are those that it needs
abbrev pub AreMarked : List (Option ℕ) → List ℕ → ℕ → Type 0
AreMarked marks needs piece = (n : ℕ) → (slice_index_or marks n None ≡ Some piece → Contains needs n) × (Contains needs n → slice_index_or marks n None ≡ Some piece)
