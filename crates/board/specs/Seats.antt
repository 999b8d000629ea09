-- Seats, tickets and what they allow, as contracts see them.
use Rattle.std.specs.Prelude.{◌≡◌, ℕ, ◌<◌, List, Contains}
use Rattle.atomic_table.specs.Seated.{TableId}
use Rattle.board.specs.Layout.{Layout, pieces_of, own_of}
use Rattle.board.specs.declared.view.View.{View}
use Rattle.board.specs.Words.{flag}
use Rattle.board.specs.Views.{Knows, IsWorking}

-- a seat: whose board it is of, and what it knows
pub record Place : Type 0 where
  pub board : TableId
  pub view : View

abbrev pub place : TableId → View → Place
place board view = record { board = board; view = view }

-- the same seat with another view
abbrev pub seeing : Place → View → Place
seeing s v = record { board = s.board; view = v }

-- a ticket: the piece, and how many of its own cells are put
pub record Task : Type 0 where
  pub piece : ℕ
  pub puts : ℕ

abbrev pub task : ℕ → ℕ → Task
task piece puts = record { piece = piece; puts = puts }

-- the seat drew the ticket's piece last, has put this many of its cells, and has not finished it
abbrev pub IsTicketOf : Layout → View → Task → Type 0
IsTicketOf plan v t = (t.piece < pieces_of plan) × IsWorking v t.piece t.puts

-- the cell is an own cell of a piece that the seat knows
abbrev pub IsKnownCell : Layout → View → ℕ → Type 0
IsKnownCell plan v c = (j : ℕ) × Knows v j × Contains (own_of plan j) c

-- the seat knows all pieces
abbrev pub KnowsAll : Layout → View → Type 0
KnowsAll plan v = (j : ℕ) → j < pieces_of plan → Knows v j

-- piece j is the first whose flag is not set
abbrev pub IsFirstUnfinished : Layout → List ℕ → ℕ → Type 0
IsFirstUnfinished plan words j = (j < pieces_of plan) × (flag words j ≡ 0) × ((k : ℕ) → k < j → flag words k ≡ 1)
