use Rattle.std.proofs.Common.{◌≡◌, ◌++◌, take}
use Rattle.std.specs.Prelude.{vec_capacity}
use Rattle.crew.specs.Private.{words_at}
use Rattle.crew.proofs.alone.look_at_each.Given as goal

abbrev pub invariant-loop-cell : goal.invariant-loop-cell
invariant-loop-cell g l = record {
  cells : l.looked.cells.now ≡ l.initial.looked.cells.now;
  piece : l.looked.piece ≡ l.initial.looked.piece;
  words : l.looked.looked.items ≡ l.initial.looked.looked.items ++ words_at g.J.Run.values (take l.cell-index l.cells);
  room : vec_capacity l.looked.looked ≡ vec_capacity l.initial.looked.looked;
}
