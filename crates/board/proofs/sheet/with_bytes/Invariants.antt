use Rattle.std.proofs.Common.{◌≡◌, ◌++◌, take}
use Rattle.std.specs.Prelude.{vec_capacity}
use Rattle.board.proofs.sheet.with_bytes.Given as goal

abbrev pub invariant-loop-byte : goal.invariant-loop-byte
invariant-loop-byte l = record {
  items : l.kept.items ≡ l.initial.kept.items ++ take l.byte-index l.bytes;
  room : vec_capacity l.kept ≡ vec_capacity l.initial.kept;
}
