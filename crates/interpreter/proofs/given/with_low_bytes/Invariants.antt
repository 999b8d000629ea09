use Rattle.std.proofs.Common.{◌≡◌, ◌++◌, ◌%◌, ◌^◌, map, take}
use Rattle.std.specs.Prelude.{vec_capacity}
use Rattle.interpreter.proofs.given.with_low_bytes.Given as goal

abbrev pub invariant-loop-word : goal.invariant-loop-word
invariant-loop-word l = record {
  items : l.bytes.items ≡ l.initial.bytes.items ++ map (λ w. w % 2 ^ 8) (take l.word-index l.words);
  room : vec_capacity l.bytes ≡ vec_capacity l.initial.bytes;
}
