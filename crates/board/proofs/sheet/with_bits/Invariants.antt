use Rattle.std.proofs.Common.{◌≡◌, ◌++◌, take}
use Rattle.std.specs.Prelude.{vec_capacity}
use Rattle.board.proofs.sheet.with_bits.Given as goal

abbrev pub invariant-loop-word : goal.invariant-loop-word
invariant-loop-word l = record {
  items : l.kept.items ≡ l.initial.kept.items ++ take l.word-index l.bits;
  room : vec_capacity l.kept ≡ vec_capacity l.initial.kept;
}
