-- The lists of a table of pieces.
use Rattle.std.specs.Prelude.{ℕ, Option, Some, None, List, [], length, slice_get}
use Rattle.orders.specs.Work.{HasSoundLists}
use Rattle.orders.specs.declared.lists.Piece.{Piece}

abbrev pub own_of : Option Piece → List ℕ
own_of None = []
own_of (Some piece) = piece.own

abbrev pub fetched_of : Option Piece → List ℕ
fetched_of None = []
fetched_of (Some piece) = piece.fetched.items

abbrev pub needs_of : Option Piece → List ℕ
needs_of None = []
needs_of (Some piece) = piece.needs.items

-- the own cells of each piece, by its number
abbrev pub own_lists : List Piece → ℕ → List ℕ
own_lists pieces piece = own_of (slice_get pieces piece)

-- the fetched cells of each piece
abbrev pub fetched_lists : List Piece → ℕ → List ℕ
fetched_lists pieces piece = fetched_of (slice_get pieces piece)

-- the needed pieces of each piece
abbrev pub needs_lists : List Piece → ℕ → List ℕ
needs_lists pieces piece = needs_of (slice_get pieces piece)

-- the pieces part a table of so many cells among them, and look only at what they need
abbrev pub AreSound : ℕ → List Piece → Type 0
AreSound cells pieces = HasSoundLists (length pieces) cells (own_lists pieces) (fetched_lists pieces) (needs_lists pieces)
