use Rattle.std.proofs.Common.{◌≡◌, take}
use Rattle.std.specs.Prelude.{vec_capacity}
use Rattle.interpreter.proofs.buffers.place_bits.widen_bytes.Given as goal

abbrev pub invariant-loop-byte : goal.invariant-loop-byte
invariant-loop-byte l = record {
  items : l.words.items ≡ take l.byte-index l.bytes;
  room : vec_capacity l.words ≡ vec_capacity l.initial.words;
}
