use Rattle.std.proofs.Common.{◌≡◌, ◌++◌, pos, take}
use Rattle.std.specs.Prelude.{map, vec_capacity}
use Rattle.piece.proofs.cells.LookedCells.push_each.Given as goal

abbrev pub invariant-loop-value : goal.invariant-loop-value
invariant-loop-value l = record {
  looked : l.self.looked.items ≡ l.initial.self.looked.items ++ map pos (take l.value-index l.values);
  cells : l.self.cells.now ≡ l.initial.self.cells.now;
  piece : l.self.piece ≡ l.initial.self.piece;
  room : vec_capacity l.self.looked ≡ vec_capacity l.initial.self.looked;
}
