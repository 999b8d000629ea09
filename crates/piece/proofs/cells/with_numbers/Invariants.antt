use Rattle.std.proofs.Common.{◌≡◌, ◌++◌, pos, take}
use Rattle.std.specs.Prelude.{map, vec_capacity}
use Rattle.piece.proofs.cells.with_numbers.Given as goal

abbrev pub invariant-loop-number : goal.invariant-loop-number
invariant-loop-number l = record {
  items : l.list.items ≡ l.initial.list.items ++ map pos (take l.number-index l.numbers);
  room : vec_capacity l.list ≡ vec_capacity l.initial.list;
}
