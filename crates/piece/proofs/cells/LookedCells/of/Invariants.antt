use Rattle.std.proofs.Common.{◌≡◌, ◌≤◌, length, take, vec_capacity}
use Rattle.piece.proofs.cells.LookedCells.of.Given as goal

abbrev pub invariant-loop-value : goal.invariant-loop-value
invariant-loop-value l = record {
  cells : l.all.cells.now ≡ l.cells;
  piece : l.all.piece ≡ l.piece;
  looked : l.all.looked.items ≡ take l.value-index l.looked;
  room : length l.looked ≤ vec_capacity l.all.looked;
}
