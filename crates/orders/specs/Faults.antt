-- What the first fault of the lists is.
use Rattle.std.specs.Prelude.{ℕ, ◌+◌, ◌<◌, Option, Some, None, List, length, Contains}
use Rattle.orders.specs.Work.{OwnIsParted, OwnIsWhole, NeedsServe}
use Rattle.orders.specs.Lists.{AreSound, own_lists, fetched_lists, needs_lists}
use Rattle.orders.specs.declared.lists.Piece.{Piece}
use Rattle.orders.specs.declared.lists.ListFault.{ListFault}
use Rattle.orders.specs.declared.lists.ListFault.TheVariants.{Own, Gap, Needs}

-- Of so many pieces this is the first with an own cell that is not in the table or stands before.
abbrev pub IsFirstUnparted : ℕ → ℕ → (ℕ → List ℕ) → ℕ → Type 0
IsFirstUnparted pieces cells own piece = (piece < pieces) × OwnIsParted piece cells own × ¬ OwnIsParted (piece + 1) cells own

-- Of so many pieces this is the first that its needed pieces do not serve, or they serve all.
abbrev pub IsFirstUnserved : ℕ → (ℕ → List ℕ) → (ℕ → List ℕ) → (ℕ → List ℕ) → Option ℕ → Type 0
IsFirstUnserved pieces own fetched needs None = NeedsServe pieces own fetched needs
IsFirstUnserved pieces own fetched needs (Some piece) =
    (piece < pieces) × NeedsServe piece own fetched needs × ¬ NeedsServe (piece + 1) own fetched needs

-- This is the first fault of a table of so many cells and these pieces, or there is none.
abbrev pub IsFirstFault : ℕ → List Piece → Option ListFault → Type 0
IsFirstFault cells pieces None = AreSound cells pieces
IsFirstFault cells pieces (Some (Own piece)) = IsFirstUnparted (length pieces) cells (own_lists pieces) piece
IsFirstFault cells pieces (Some (Gap cell)) =
    OwnIsParted (length pieces) cells (own_lists pieces) × (cell < cells) × OwnIsWhole (length pieces) cell (own_lists pieces)
    × ((piece : ℕ) → piece < length pieces → ¬ Contains (own_lists pieces piece) cell)
IsFirstFault cells pieces (Some (Needs piece)) =
    OwnIsParted (length pieces) cells (own_lists pieces) × OwnIsWhole (length pieces) cells (own_lists pieces)
    × IsFirstUnserved (length pieces) (own_lists pieces) (fetched_lists pieces) (needs_lists pieces) (Some piece)
