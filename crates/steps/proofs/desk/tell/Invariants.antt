use Rattle.std.proofs.Common.{◌≡◌, take, vec_capacity}
use Rattle.steps.proofs.desk.tell.Given as goal

abbrev pub invariant-loop-value : goal.invariant-loop-value
invariant-loop-value l = record {
  cells : l.told.cells.now ≡ l.initial.told.cells.now;
  piece : l.told.piece ≡ l.piece;
  looked : l.told.looked.items ≡ take l.value-index l.values;
  room : vec_capacity l.told.looked ≡ vec_capacity l.initial.told.looked;
}
