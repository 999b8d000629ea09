use Rattle.std.proofs.Common.{◌<◌, ℕ, length}
use Rattle.std.specs.Prelude.{Contains}
use Rattle.board.specs.Layout.{own_of}
use Rattle.board.proofs.cells.SheetCells.none_shown.Given as goal

abbrev pub invariant-loop-piece : goal.invariant-loop-piece
invariant-loop-piece g l = (j : ℕ) → j < l.piece → (c : ℕ) → Contains (own_of g.J.Run.layout j) c → c < length l.self.bits
